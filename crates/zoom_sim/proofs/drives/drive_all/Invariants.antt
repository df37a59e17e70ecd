use Rattle.std.proofs.Common.{◌≡◌, length}
use Rattle.zoom_sim.specs.RunSteps.{SilentStep}
use Rattle.zoom_sim.specs.RunSound.{DriveAllStep}
use Rattle.zoom_sim.specs.RunMoves.{DrivenStep}
use Rattle.zoom_sim.specs.RunMade.{InTurn}
use Rattle.zoom_sim.proofs.drives.drive_all.Given as goal

abbrev pub invariant-loop-c : goal.invariant-loop-c
invariant-loop-c l =
    SilentStep l.initial.meta l.meta × DriveAllStep l.c l.initial.meta l.meta
    × (length l.meta.pool.connections ≡ length l.initial.meta.pool.connections)
    × InTurn DrivenStep l.initial.meta l.c l.meta
