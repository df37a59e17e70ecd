use Rattle.std.proofs.Common.{◌≡◌, ◌++◌, length, map}
use Rattle.ztarget.specs.Keeping.{hit}
use Rattle.ztarget.proofs.found.put_entries.Given as goal

abbrev pub invariant-loop-left : goal.invariant-loop-left
invariant-loop-left l = l.hits.items ++ map (hit l.database) l.left ≡ l.initial.hits.items ++ map (hit l.database) l.entries

abbrev pub decreases-loop-left : goal.decreases-loop-left
decreases-loop-left l = length l.left
