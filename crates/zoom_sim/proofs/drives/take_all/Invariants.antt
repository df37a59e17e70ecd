use Rattle.std.proofs.Common.{◌≡◌, length}
use Rattle.zoom_sim.specs.RunSteps.{SilentStep}
use Rattle.zoom_sim.specs.RunTakeAll.{TakeSteps}
use Rattle.zoom_sim.specs.RunMoves.{DrivenStep}
use Rattle.zoom_sim.proofs.drives.take_all.Given as goal

abbrev pub invariant-loop-count : goal.invariant-loop-count
invariant-loop-count l =
    SilentStep l.initial.meta l.meta × TakeSteps l.c l._count l.initial.meta l.meta
    × (length l.meta.pool.connections ≡ length l.initial.meta.pool.connections)
    × DrivenStep l.c l.initial.meta l.meta
