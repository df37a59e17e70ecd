use Rattle.zplan.proofs.Trims.{IsTrimming}
use Rattle.zplan.proofs.trim.trim.Given as goal

abbrev pub invariant-loop-list : goal.invariant-loop-list
invariant-loop-list l = IsTrimming l.fn.list.items l.fn.k l.list.items l.skip

abbrev pub decreases-loop-list : goal.decreases-loop-list
decreases-loop-list l = l.list.len
