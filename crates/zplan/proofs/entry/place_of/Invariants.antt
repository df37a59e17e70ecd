use Rattle.std.proofs.Common.{take}
use Rattle.zplan.specs.Schedules.{HasNoneWaiting}
use Rattle.zplan.proofs.entry.place_of.Given as goal

abbrev pub invariant-loop-at : goal.invariant-loop-at
invariant-loop-at l = HasNoneWaiting l.fn.first (take l.at l.entries)
