use Rattle.zoom_sim.proofs.RunInputs.{made_on, made_if, released_on}
use Rattle.zoom_sim.proofs.RunMoves.{moved_to, moved_release, moved_from}
use Rattle.zoom_sim.proofs.peers.Peer.make.Goals as goal

pub returns-in-To-clause-steps : goal.returns-in-To-clause-steps
returns-in-To-clause-steps g c = λ sure.
    made_on c.args.c c.args.meta.now c.carry_to.new.meta c.args.self.now c.carry_to.new.self c.carry_to.result
    (c.carry_to.ensures.steps sure)

pub returns-in-Release-clause-steps : goal.returns-in-Release-clause-steps
returns-in-Release-clause-steps g c = λ sure.
    made_on c.args.c c.args.meta.now c.args.meta.now c.args.self.now c.release.new.self c.release.result
    (released_on c.args.c c.args.meta.now c.args.self.now c.release.new.self c.release.result c.release.ensures.fine)

pub returns-in-From-clause-steps : goal.returns-in-From-clause-steps
returns-in-From-clause-steps g c = λ sure.
    made_if c.args.c c.args.meta.now c.carry_from.new.meta c.args.self.now c.carry_from.new.self c.carry_from.result
    (c.carry_from.ensures.steps sure)

pub returns-in-To-clause-moved : goal.returns-in-To-clause-moved
returns-in-To-clause-moved g c =
    moved_to g.W.Channel.carries_to g.W.Channel.carries_from g.W.Channel.fails c.args.c c.args.channel.now
    c.carry_to.new.channel c.args.meta.now c.carry_to.new.meta c.args.self.now c.carry_to.new.self c.carry_to.result
    c.args.step _ c.in-To.k c.in-To.is c.carry_to.ensures.carried

pub returns-in-Release-clause-moved : goal.returns-in-Release-clause-moved
returns-in-Release-clause-moved g c =
    moved_release g.W.Channel.carries_to g.W.Channel.carries_from g.W.Channel.fails c.args.c c.args.channel.now
    c.args.meta.now c.args.self.now c.release.new.self c.release.result c.args.step _ c.in-Release.k c.in-Release.is
    c.release.ensures.released

pub returns-in-From-clause-moved : goal.returns-in-From-clause-moved
returns-in-From-clause-moved g c =
    moved_from g.W.Channel.carries_to g.W.Channel.carries_from g.W.Channel.fails c.args.c c.args.channel.now
    c.carry_from.new.channel c.args.meta.now c.carry_from.new.meta c.args.self.now c.carry_from.new.self
    c.carry_from.result c.args.step _ c.in-From.k c.in-From.is c.carry_from.ensures.carried
