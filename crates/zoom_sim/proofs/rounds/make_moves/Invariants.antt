use Rattle.std.proofs.Common.{◌≡◌, true, length, take}
use Rattle.zoom_sim.specs.RunSteps.{AfterMoves}
use Rattle.zoom_sim.specs.RunRounds.{AfterSoundMoves}
use Rattle.zoom_sim.specs.RunMoves.{AreMade}
use Rattle.zoom_sim.proofs.rounds.make_moves.Given as goal

abbrev pub invariant-loop-step : goal.invariant-loop-step
invariant-loop-step g l =
    AfterMoves l.initial.meta l.meta l.initial.peers l.peers
    × (length l.meta.pool.connections ≡ length l.initial.meta.pool.connections)
    × (g.W.Channel.sure ≡ true → AfterSoundMoves l.initial.meta l.meta l.initial.peers l.peers)
    × AreMade g.W.Channel.carries_to g.W.Channel.carries_from g.W.Channel.fails l.initial.channel l.initial.meta
    l.initial.peers (take l.step-index l.moves) l.channel l.meta l.peers
