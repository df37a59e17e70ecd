use Rattle.zoom_sim.proofs.RunSilentSteps.{goes_trans}
use Rattle.zoom_sim.proofs.RunCarries.{carries_trans, goes_carries}
use Rattle.zoom_sim.proofs.RunInputs.{taken_steps, taken_ends}
use Rattle.zoom_sim.proofs.RunMoves.{carried_from}
use Rattle.zoom_sim.proofs.peers.Peer.carry_from.Goals as goal

pub returns-clause-carries : goal.returns-clause-carries
returns-clause-carries g c =
    carries_trans c.args.c c.args.meta.now c.feed_from.new.meta c.end_where_stopped.new.meta c.args.self.now
    c.feed_from.new.self c.feed_from.new.self c.in_ok-carried.ensures.carries
    (goes_carries c.args.c c.feed_from.new.meta c.end_where_stopped.new.meta c.feed_from.new.self
    (goes_trans c.feed_from.new.meta c.stop_for.new.meta c.end_where_stopped.new.meta c.stop_for.ensures.silent
    (goes_trans c.stop_for.new.meta c.take_all.new.meta c.end_where_stopped.new.meta c.in_ok-take_all.ensures.silent
    c.in_ok-end_where_stopped.ensures.silent)))

pub returns-clause-steps : goal.returns-clause-steps
returns-clause-steps g c = λ sure.
    taken_steps c.args.c c.in_ok-carried.carried c.args.meta.now c.feed_from.new.meta c.stop_for.new.meta
    c.take_all.new.meta c.end_where_stopped.new.meta c.args.self.now c.feed_from.new.self
    (c.in_ok-carried.ensures.steps sure) (c.stop_for.ensures.same (c.failure.ensures.never sure)) c.in_ok-take_all.ensures.all
    (c.in_ok-end_where_stopped.ensures.steps c.in_ok-carried.ensures.none)

pub returns-clause-ends : goal.returns-clause-ends
returns-clause-ends g c = λ sure most.
    taken_ends c.args.c c.in_ok-carried.carried c.args.meta.now c.feed_from.new.meta c.stop_for.new.meta
    c.take_all.new.meta c.end_where_stopped.new.meta c.args.self.now c.feed_from.new.self
    (c.in_ok-carried.ensures.steps sure) (c.stop_for.ensures.same (c.failure.ensures.never sure)) c.in_ok-take_all.ensures.all
    (c.in_ok-end_where_stopped.ensures.ends c.in_ok-carried.ensures.none (c.in_ok-carried.ensures.all sure most).from)

pub returns-clause-carried : goal.returns-clause-carried
returns-clause-carried g c =
    carried_from g.W.Channel.carries_from g.W.Channel.fails c.in_ok-carried.carried c.args.c c.args.k c.failure.result
    c.args.channel.now c.feed_from.new.channel c.args.meta.now c.feed_from.new.meta c.stop_for.new.meta
    c.take_all.new.meta c.end_where_stopped.new.meta c.args.self.now c.feed_from.new.self c.in_ok-carried.ensures.carried
    c.failure.ensures.fails c.stop_for.ensures.stops c.in_ok-take_all.ensures.own c.in_ok-end_where_stopped.ensures.own
