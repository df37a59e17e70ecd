use Rattle.std.proofs.Common.{◌≡◌, ℕ, pos, ◌+◌, ◌-◌, ◌<◌, ◌≤◌, ltb, length, drop, get_or, sym, false, ap, ◌∙◌, arith, rules, w64, FitsSigned}
use Rattle.std.proofs.lemmas.Bool.Decides.{nat_tests}
use Rattle.std.proofs.lemmas.Int.{to_z-of_z}
use Rattle.std.proofs.lemmas.List.{get_or_default}
use Rattle.zplan.specs.Ranges.{natural, positions}
use Rattle.zorigin.proofs.Ranges.{length_left}
use Rattle.zorigin.proofs.range.exceed_positions.Goals as goal

none : (n rest left : ℕ) → left ≤ n → ltb (n + rest) left ≡ false
none n rest left h = grind (arith, nat_tests)

less : (n rest left : ℕ) → n < left → ltb rest (left - n) ≡ ltb (n + rest) left
less n rest left h = grind (arith, nat_tests)

pub returns-then-left-number : goal.returns-then-left-number
returns-then-left-number c =
    let ranges = c.args.ranges.now in
    let i = c.loop-range.range-index in
    let x = get_or ranges i (record { start = pos 0; n = pos 0 }) in
    let is : x ≡ get_or ranges i x = get_or_default ranges i _ x c.loop-range-test.true in
    let fits : FitsSigned w64 x.n = search rules in
    let number : c.natural-number.result ≡ natural x.n = c.natural-number.ensures ∙ ap natural (to_z-of_z w64 x.n fits) in
    let rest = length (positions (drop (i + 1) ranges)) in
    sym (none (natural x.n) rest c.loop-range.left (omega (arith, number, c.if-left-number.true))) ∙ ap (λ k. ltb k c.loop-range.left) (sym (length_left ranges i x c.loop-range-test.true is)) ∙ c.loop-range.invariant

pub loop-range-preserved : goal.loop-range-preserved
loop-range-preserved c =
    let ranges = c.args.ranges.now in
    let i = c.loop-range.range-index in
    let x = get_or ranges i (record { start = pos 0; n = pos 0 }) in
    let is : x ≡ get_or ranges i x = get_or_default ranges i _ x c.loop-range-test.true in
    let fits : FitsSigned w64 x.n = search rules in
    let number : c.natural-number.result ≡ natural x.n = c.natural-number.ensures ∙ ap natural (to_z-of_z w64 x.n fits) in
    let rest = length (positions (drop (i + 1) ranges)) in
    ap (λ k. ltb rest (c.loop-range.left - k)) number ∙ less (natural x.n) rest c.loop-range.left (omega (arith, number, c.if-left-number.false))
    ∙ ap (λ k. ltb k c.loop-range.left) (sym (length_left ranges i x c.loop-range-test.true is)) ∙ c.loop-range.invariant
