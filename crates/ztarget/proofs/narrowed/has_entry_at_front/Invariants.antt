use Rattle.std.proofs.Common.{◌≡◌, length}
use Rattle.ztarget.specs.Narrowing.{AreInEntryOrder, has_entry}
use Rattle.ztarget.proofs.narrowed.has_entry_at_front.Given as goal

abbrev pub invariant-loop-left : goal.invariant-loop-left
invariant-loop-left l = AreInEntryOrder l.entry l.places → AreInEntryOrder l.entry l.left × (has_entry l.used l.entries l.left l.entry ≡ has_entry l.used l.entries l.places l.entry)

abbrev pub decreases-loop-left : goal.decreases-loop-left
decreases-loop-left l = length l.left
