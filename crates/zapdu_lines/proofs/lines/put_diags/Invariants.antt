-- the lines of the records so far
use Rattle.std.proofs.Common.{◌≡◌, ◌++◌, take}
use Rattle.zapdu_lines.specs.Lines.{diag_lines}
use Rattle.zapdu_lines.proofs.lines.put_diags.Given as goal

abbrev pub invariant-loop-diag : goal.invariant-loop-diag
invariant-loop-diag l = l.text.items ≡ l.initial.text.items ++ diag_lines (take l.diag-index l.diags)
