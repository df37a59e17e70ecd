use Rattle.std.proofs.Common.{◌≡◌, ◌≤ℤ◌, pos, ◌-ℤ◌, int_lt, to_z, of_z, w64, ap, ◌∙◌, arith, rules, FitsSigned}
use Rattle.std.specs.Int.{int_max}
use Rattle.std.proofs.lemmas.Int.{ints, to_z-of_z}
use Rattle.zplan.specs.Ranges.{natural}
use Rattle.zorigin.proofs.Ranges.{past_test, at_zero}
use Rattle.zorigin.proofs.range.ends_past.Goals as goal

pub returns-else-count-start : goal.returns-else-count-start
returns-else-count-start c =
    let start : FitsSigned w64 c.args.range.start = search rules in
    let n : FitsSigned w64 c.args.range.n = search rules in
    let max : FitsSigned w64 c.max-start.result = search rules in
    let low : c.max-start.result ≡ pos (natural c.args.range.start) = c.max-start.ensures.value ∙ ap (λ z. int_max z (pos 0)) (to_z-of_z w64 c.args.range.start start) ∙ at_zero c.args.range.start in
    let plain : to_z w64 (of_z w64 c.args.range.n) ≡ c.args.range.n = to_z-of_z w64 c.args.range.n n in
    let some : pos 1 ≤ℤ c.args.range.n = grind (arith, ints, plain, c.if-range-ge1.true) in
    let less : to_z w64 (of_z w64 (to_z w64 (of_z w64 c.args.range.n) -ℤ pos 1)) ≡ c.args.range.n -ℤ pos 1 = omega (arith, ints) in
    let left : to_z w64 (of_z w64 (to_z w64 (of_z w64 c.args.count) -ℤ to_z w64 (of_z w64 c.max-start.result))) ≡ c.args.count -ℤ c.max-start.result = omega (arith, ints, c.if-count-start.false) in
    (λ i. int_lt (left i) (less i)) ∙ past_test c.args.count c.max-start.result c.args.range low some
