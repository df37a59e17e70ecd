use Rattle.std.proofs.Common.{◌≡◌, pos, drop}
use Rattle.zorigin.specs.Ranges.{are_ranges_after}
use Rattle.zorigin.proofs.range.are_ranges.Given as goal

abbrev pub invariant-loop-range : goal.invariant-loop-range
invariant-loop-range l = are_ranges_after l.last (drop l.range-index l.ranges) ≡ are_ranges_after (pos 0) l.ranges
