use Rattle.std.proofs.Common.{◌≡◌, length}
use Rattle.zoom_sim.specs.RunSteps.{SilentStep}
use Rattle.zoom_sim.specs.RunSound.{UnfinishedOnlyStep}
use Rattle.zoom_sim.specs.RunMade.{InTurn, EndUnlessOver}
use Rattle.zoom_sim.proofs.drives.end_inputs.Given as goal

abbrev pub invariant-loop-c : goal.invariant-loop-c
invariant-loop-c l =
    SilentStep l.initial.meta l.meta × UnfinishedOnlyStep l.initial.meta l.meta
    × (length l.meta.pool.connections ≡ length l.initial.meta.pool.connections)
    × InTurn EndUnlessOver l.initial.meta l.c l.meta
