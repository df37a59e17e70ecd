use Rattle.std.proofs.Common.{◌≡◌, drop}
use Rattle.zorigin.specs.Ranges.{is_past}
use Rattle.zplan.specs.Ranges.{positions}
use Rattle.zorigin.proofs.range.are_past.Given as goal

abbrev pub invariant-loop-range : goal.invariant-loop-range
invariant-loop-range l = is_past l.count (positions (drop l.range-index l.ranges)) ≡ is_past l.count (positions l.ranges)
