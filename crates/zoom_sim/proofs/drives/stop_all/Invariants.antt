use Rattle.std.proofs.Common.{◌≡◌, length}
use Rattle.zoom_sim.specs.RunSteps.{StopAllStep}
use Rattle.zoom_sim.specs.RunSound.{UnfinishedOnlyStep}
use Rattle.zoom_sim.specs.RunMade.{InTurn, StopUnlessOver}
use Rattle.zoom_sim.proofs.drives.stop_all.Given as goal

abbrev pub invariant-loop-c : goal.invariant-loop-c
invariant-loop-c l =
    StopAllStep l.c l.initial.meta l.meta × UnfinishedOnlyStep l.initial.meta l.meta
    × (length l.meta.pool.connections ≡ length l.initial.meta.pool.connections)
    × InTurn StopUnlessOver l.initial.meta l.c l.meta
