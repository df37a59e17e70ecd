use Rattle.std.proofs.Common.{◌≡◌, length}
use Rattle.zmarc.specs.References.{behind_each}
use Rattle.zmarc.specs.Fields.{without_end_marks}
use Rattle.zmarc.proofs.fields.leave_end_marks.Given as goal

abbrev pub invariant-loop-last : goal.invariant-loop-last
invariant-loop-last l =
    without_end_marks (behind_each l.found.items) ≡ without_end_marks (behind_each l.fn.found.items)

abbrev pub decreases-loop-last : goal.decreases-loop-last
decreases-loop-last l = length l.found.items
