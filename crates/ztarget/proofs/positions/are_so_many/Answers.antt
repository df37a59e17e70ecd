use Rattle.std.proofs.Common.{◌≡◌, ℕ, pos, ◌+◌, ◌-◌, ◌<◌, ◌≤◌, ◌==◌, length, drop, get_or, sym, false, ap, ◌∙◌, arith, rules, w64, FitsSigned}
use Rattle.std.proofs.lemmas.Bool.Decides.{nat_tests}
use Rattle.std.proofs.lemmas.Int.{to_z-of_z}
use Rattle.std.proofs.lemmas.List.{get_or_default}
use Rattle.zplan.specs.Ranges.{natural, positions}
use Rattle.ztarget.proofs.AskedPositions.{length_left}
use Rattle.ztarget.proofs.positions.are_so_many.Goals as goal

fewer : (n rest left : ℕ) → left < n → (left == n + rest) ≡ false
fewer n rest left h = grind (arith, nat_tests)

less : (n rest left : ℕ) → n ≤ left → (left - n == rest) ≡ (left == n + rest)
less n rest left h = grind (arith, nat_tests)

pub returns-then-left-number : goal.returns-then-left-number
returns-then-left-number c =
    let ranges = c.args.ranges.now in
    let i = c.loop-range.range-index in
    let x = get_or ranges i (record { start = pos 0; n = pos 0 }) in
    let is : x ≡ get_or ranges i x = get_or_default ranges i _ x c.loop-range-test.true in
    let fits : FitsSigned w64 x.n = search rules in
    let number : c.natural-number.result ≡ natural x.n = c.natural-number.ensures ∙ ap natural (to_z-of_z w64 x.n fits) in
    let rest = length (positions (drop (i + 1) ranges)) in
    sym (fewer (natural x.n) rest c.loop-range.left (omega (arith, number, c.if-left-number.true)))
    ∙ ap (λ k. c.loop-range.left == k) (sym (length_left ranges i x c.loop-range-test.true is)) ∙ c.loop-range.invariant

pub loop-range-preserved : goal.loop-range-preserved
loop-range-preserved c =
    let ranges = c.args.ranges.now in
    let i = c.loop-range.range-index in
    let x = get_or ranges i (record { start = pos 0; n = pos 0 }) in
    let is : x ≡ get_or ranges i x = get_or_default ranges i _ x c.loop-range-test.true in
    let fits : FitsSigned w64 x.n = search rules in
    let number : c.natural-number.result ≡ natural x.n = c.natural-number.ensures ∙ ap natural (to_z-of_z w64 x.n fits) in
    let rest = length (positions (drop (i + 1) ranges)) in
    ap (λ k. c.loop-range.left - k == rest) number ∙ less (natural x.n) rest c.loop-range.left (omega (arith, number, c.if-left-number.false))
    ∙ ap (λ k. c.loop-range.left == k) (sym (length_left ranges i x c.loop-range-test.true is)) ∙ c.loop-range.invariant
