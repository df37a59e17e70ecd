use Rattle.std.proofs.Common.{◌≡◌, ltb, length, drop}
use Rattle.zplan.specs.Ranges.{positions}
use Rattle.zorigin.proofs.range.exceed_positions.Given as goal

abbrev pub invariant-loop-range : goal.invariant-loop-range
invariant-loop-range l = ltb (length (positions (drop l.range-index l.ranges))) l.left ≡ ltb (length (positions l.ranges)) l.fn.len
