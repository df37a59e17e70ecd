use Rattle.zoom_tcp.proofs.Pairs.{own_stops}
use Rattle.zoom_tcp.proofs.loopback.run_loopback.Goals as goal

pub returns-clause-own : goal.returns-clause-own
returns-clause-own g c =
    let moved = c.in_ok-run_on.ensures.moved in
    record {
      way = c.in_ok-way.way;
      later = c.run_on.new.way;
      sound = c.in_ok-way.ensures;
      moved = moved;
      stops = own_stops c.in_ok-way.way c.run_on.new.way moved.made.finished.count c.in_ok-way.ensures
          moved.run.history moved.stops;
    }
