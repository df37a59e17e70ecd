-- the digits of the bits so far
use Rattle.std.proofs.Common.{◌≡◌, ◌++◌, ◌∷◌, [], take, map}
use Rattle.zapdu_lines.specs.Fields.{bit_text}
use Rattle.zapdu_lines.proofs.fields.put_bits.Given as goal

abbrev pub invariant-loop-bit : goal.invariant-loop-bit
invariant-loop-bit l = l.text.items ≡ l.fn.text.items ++ (32 ∷ [] ++ map bit_text (take l.bit-index l.bit-items))
