use Rattle.std.proofs.Common.{◌≡◌, true, length}
use Rattle.zoom_sim.specs.RunSteps.{AfterMoves}
use Rattle.zoom_sim.specs.RunMade.{AreRounds}
use Rattle.zoom_sim.proofs.RunFinishes.{SoundRounds}
use Rattle.zoom_sim.proofs.rounds.finish.Given as goal

abbrev pub invariant-loop : goal.invariant-loop
invariant-loop g l =
    AfterMoves l.initial.meta l.meta l.initial.peers l.peers
    × (length l.meta.pool.connections ≡ length l.initial.meta.pool.connections)
    × (g.W.Channel.sure ≡ true → SoundRounds l.counter l.initial.meta l.meta l.initial.peers l.peers)
    × AreRounds g.W.Channel.carries_to g.W.Channel.carries_from g.W.Channel.fails l.initial.channel l.initial.meta
    l.initial.peers l.counter l.channel l.meta l.peers
