-- the numbers so far
use Rattle.std.proofs.Common.{◌≡◌, ◌++◌, take}
use Rattle.zapdu_lines.specs.Fields.{numbers_text}
use Rattle.zapdu_lines.proofs.fields.put_numbers.Given as goal

abbrev pub invariant-loop-number : goal.invariant-loop-number
invariant-loop-number l = l.text.items ≡ l.initial.text.items ++ numbers_text (take l.number-index l.numbers)
