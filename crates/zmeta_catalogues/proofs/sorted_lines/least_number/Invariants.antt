use Rattle.std.proofs.Common.{◌≤◌}
use Rattle.zmeta_catalogues.specs.SortedLines.{ends_name, IsLeast}
use Rattle.zmeta_catalogues.proofs.sorted_lines.least_number.Given as goal

abbrev pub invariant-lines : goal.invariant-lines
invariant-lines l = record {
  least : IsLeast (ends_name l.len) l.lines l.from l.at l.least;
  none_done : l.to ≤ l.from → l.at ≤ l.from;
}
