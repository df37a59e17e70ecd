use Rattle.std.proofs.Common.{◌≡◌, true, length}
use Rattle.zoom_sim.specs.RunSteps.{AfterMoves}
use Rattle.zoom_sim.specs.RunMade.{AreRounded}
use Rattle.zoom_sim.proofs.RunRounds.{SoundRoundSoFar}
use Rattle.zoom_sim.proofs.rounds.go_round.Given as goal

abbrev pub invariant-loop-c : goal.invariant-loop-c
invariant-loop-c g l =
    AfterMoves l.initial.meta l.meta l.initial.peers l.peers
    × (length l.meta.pool.connections ≡ length l.initial.meta.pool.connections)
    × (g.W.Channel.sure ≡ true → SoundRoundSoFar l.c l.any l.initial.meta l.meta l.initial.peers l.peers)
    × AreRounded g.W.Channel.carries_to g.W.Channel.carries_from g.W.Channel.fails l.initial.channel l.initial.meta
    l.initial.peers l.c l.any l.channel l.meta l.peers
