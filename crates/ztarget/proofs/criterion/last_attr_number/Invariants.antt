use Rattle.std.proofs.Common.{◌≡◌, length}
use Rattle.ztarget.specs.Matching.{last_attr_number}
use Rattle.ztarget.proofs.criterion.last_attr_number.Given as goal

abbrev pub invariant-loop-left : goal.invariant-loop-left
invariant-loop-left l = last_attr_number l.kind l.otherwise l.attrs ≡ last_attr_number l.kind l.value l.left

abbrev pub decreases-loop-left : goal.decreases-loop-left
decreases-loop-left l = length l.left
