use Rattle.std.proofs.Common.{false}
use Rattle.zoom_sim.proofs.RunRounds.{step_stays}
use Rattle.zoom_sim.proofs.RunWorlds.{same_world, step_world}
use Rattle.zoom_sim.proofs.RunMoves.{move_made, move_none}
use Rattle.zoom_sim.proofs.rounds.make_move.Goals as goal

pub returns-clause-goes : goal.returns-clause-goes
returns-clause-goes g c =
    step_world c.connection_of-c.result c.args.meta.now c.make.new.meta c.args.peers.now c.index-peers-c.result
    c.make.new.self c.if-c-peers.false c.in_ok-make.ensures.carries

pub returns-then-c-peers-clause-goes : goal.returns-then-c-peers-clause-goes
returns-then-c-peers-clause-goes g c = same_world c.args.meta.now c.args.peers.now

pub returns-clause-stays : goal.returns-clause-stays
returns-clause-stays g c = λ sure.
    step_stays c.args.meta.now c.make.new.meta c.args.peers.now c.connection_of-c.result c.index-peers-c.result c.make.new.self c.if-c-peers.false false
    (c.in_ok-make.ensures.steps sure)

pub returns-clause-moved : goal.returns-clause-moved
returns-clause-moved g c =
    move_made g.W.Channel.carries_to g.W.Channel.carries_from g.W.Channel.fails c.in_ok-make.field-0 c.args.step
    c.connection_of-c.result
    c.connection_of-c.ensures c.args.channel.now c.make.new.channel c.args.meta.now c.make.new.meta c.args.peers.now
    c.index-peers-c.result c.make.new.self c.if-c-peers.false c.in_ok-make.ensures.moved

pub returns-then-c-peers-clause-moved : goal.returns-then-c-peers-clause-moved
returns-then-c-peers-clause-moved g c =
    move_none g.W.Channel.carries_to g.W.Channel.carries_from g.W.Channel.fails c.args.step c.connection_of-c.result
    c.connection_of-c.ensures c.args.channel.now c.args.meta.now c.args.peers.now c.if-c-peers.true
