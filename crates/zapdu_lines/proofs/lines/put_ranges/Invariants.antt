-- the lines of the ranges so far
use Rattle.std.proofs.Common.{◌≡◌, ◌++◌, take}
use Rattle.zapdu_lines.specs.Lines.{range_lines}
use Rattle.zapdu_lines.proofs.lines.put_ranges.Given as goal

abbrev pub invariant-loop-range : goal.invariant-loop-range
invariant-loop-range l = l.text.items ≡ l.initial.text.items ++ range_lines (take l.range-index l.ranges)
