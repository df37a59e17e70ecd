use Rattle.std.proofs.Common.{◌≡◌, ◌++◌, filter, length}
use Rattle.ztarget.specs.Narrowing.{AreInEntryOrder, has_entry}
use Rattle.ztarget.proofs.narrowed.narrowed_places.Given as goal

abbrev pub invariant-loop-left : goal.invariant-loop-left
invariant-loop-left l = AreInEntryOrder 0 l.places → l.found.items ++ filter (has_entry l.used l.entries l.places) l.left ≡ filter (has_entry l.used l.entries l.places) l.among

abbrev pub decreases-loop-left : goal.decreases-loop-left
decreases-loop-left l = length l.left
