use Rattle.zplan.proofs.Entries.{AllSent}
use Rattle.std.proofs.Common.{take}
use Rattle.zplan.proofs.entry.first_due.Given as goal

abbrev pub invariant-loop-at : goal.invariant-loop-at
invariant-loop-at l = AllSent (take l.at l.entries)
