use Rattle.std.proofs.Common.{◌≡◌, ℕ, Bool, List, ◌∷◌, length}
use Rattle.zquery_rpn.specs.declared.query.Attr.{Attr}
use Rattle.zquery.specs.InForce.{in_force}
use Rattle.zquery.specs.Notation.Table.{Expected, Operand, expected_after}
use Rattle.zquery.specs.Notation.Reading.{ArePrefixes}
use Rattle.zquery.proofs.notation.parse.prefixes.Given as goal

abbrev pub invariant-loop-token : goal.invariant-loop-token
invariant-loop-token l = record {
  leads : (xs : List Attr) → l.initial.attrs.items ≡ in_force xs → ArePrefixes l.own xs l.initial.kind l.initial.cursor l.attrs.items l.kind l.cursor;
  expected : (deep : ℕ → Bool) (n : ℕ) (rest : List Expected) → expected_after deep l.initial.cursor (Operand l.initial.kind n ∷ rest) ≡ expected_after deep l.cursor (Operand l.kind n ∷ rest);
}

abbrev pub decreases-loop-token : goal.decreases-loop-token
decreases-loop-token l = length l.cursor
