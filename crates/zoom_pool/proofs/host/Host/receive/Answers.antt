use Rattle.std.proofs.Common.{refl, ap}
use Rattle.zoom_pool.specs.Transcripts.{joined}
use Rattle.zoom_pool.specs.Hosts.{HostState}
use Rattle.zoom_pool.proofs.Hosts.{piece_done}
use Rattle.zoom_pool.proofs.host.Host.receive.Goals as goal

pub returns : goal.returns
returns c =
    let inside = c.self.inside in
    let old : HostState = record {
      target = inside.target;
      framer = inside.framer.stream;
      waiting = joined inside.waiting.items;
      stopped = inside.stopped;
      closed = inside.closed;
    } in
    let new : HostState = record {
      target = c.receive_all.new.target;
      framer = c.receive_all.new.framer.stream;
      waiting = joined inside.waiting.items;
      stopped = inside.stopped;
      closed = inside.closed;
    } in
    rw (← c.self.view_is) (piece_done c.args.piece.now c.receive_all.result old new c.feed.new.self.stream (refl, refl)
    (λ none. let is = c.in_ok-feed.ensures.ok none in (ap (λ z. z.stream.octets) is, ap (λ z. z.stream.limit) is, ap (λ z. z.stream.fault) is)) c.receive_all.ensures)
