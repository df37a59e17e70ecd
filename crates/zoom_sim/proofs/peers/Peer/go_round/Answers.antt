use Rattle.std.proofs.Common.{refl}
use Rattle.zoom_sim.proofs.RunCarries.{carries_trans}
use Rattle.zoom_sim.proofs.RunRounded.{none_moved, rounds}
use Rattle.zoom_sim.proofs.peers.Peer.go_round.Goals as goal

pub returns-clause-carries : goal.returns-clause-carries
returns-clause-carries g c =
    carries_trans c.args.c c.args.meta.now c.carry_to.new.meta c.carry_from.new.meta c.args.self.now
    c.release_all.new.self c.carry_from.new.self
    (carries_trans c.args.c c.args.meta.now c.carry_to.new.meta c.carry_to.new.meta c.args.self.now
    c.carry_to.new.self c.release_all.new.self c.in_ok-sent.ensures.carries
    (c.in_ok-released.ensures.releases.on c.args.c c.carry_to.new.meta)) c.in_ok-came.ensures.carries

pub returns-clause-rounds : goal.returns-clause-rounds
returns-clause-rounds g c = λ sure.
    let laws = c.exchange_laws.ensures in
    let all = c.in_ok-sent.ensures.all sure refl in
    rounds c.one_transcript.ensures laws.one_served laws.rests laws.ended c.args.c c.args.meta.now
    c.carry_to.new.meta c.carry_from.new.meta c.args.self.now c.carry_to.new.self c.release_all.new.self
    c.carry_from.new.self c.in_ok-came.came _
    (λ e. (none_moved c.in_ok-sent.sent c.in_ok-released.released c.in_ok-came.came e).2)
    (c.in_ok-sent.ensures.steps sure) all.0 all.1 c.in_ok-released.ensures.empties (c.in_ok-came.ensures.all sure refl)
    (c.in_ok-came.ensures.ends sure refl)

pub returns-clause-moved : goal.returns-clause-moved
returns-clause-moved g c = record {
  between = c.carry_to.new.channel;
  meta = c.carry_to.new.meta;
  fed = c.carry_to.new.self;
  replied = c.release_all.new.self;
  some_sent = c.in_ok-sent.sent;
  some_released = c.in_ok-released.released;
  some_came = c.in_ok-came.came;
  sent = c.in_ok-sent.ensures.carried;
  released = c.in_ok-released.ensures.all;
  came = c.in_ok-came.ensures.carried;
  some = refl;
}
