use Rattle.std.proofs.Common.{[], Ok}
use Rattle.std.specs.declared.alloc.AllocError.{AllocError}
use Rattle.zoom_sim.proofs.RunSilentSteps.{drove_goes}
use Rattle.zoom_sim.proofs.RunMoves.{drove_driven}
use Rattle.zoom_sim.proofs.drives.drive.Goals as goal

pub returns-clause-silent : goal.returns-clause-silent
returns-clause-silent c = drove_goes {E = AllocError} c.args.c (Ok c.in_ok-drive.field-0) c.args.meta.now c.drive.new.self
    c.in_ok-drive.ensures.after

pub returns-clause-at : goal.returns-clause-at
returns-clause-at c = λ questions s h a. (c.in_ok-drive.field-0, c.in_ok-drive.ensures.after questions s [] h a)

pub returns-clause-own : goal.returns-clause-own
returns-clause-own c = drove_driven {E = AllocError} c.args.c (Ok c.in_ok-drive.field-0) c.args.meta.now c.drive.new.self
    c.in_ok-drive.ensures.after
