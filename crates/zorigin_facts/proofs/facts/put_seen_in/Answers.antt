use Rattle.std.proofs.Common.{◌≡◌, ◌++◌, ℕ, pos, ◌+ℤ◌, ◌≤ℤ◌, ◌<ℤ◌, ◌≤◌, get_or, length, take, drop, min, to_z, of_z, w64, ap, ◌∙◌, arith}
use Rattle.std.proofs.lemmas.Int.{ints}
use Rattle.std.proofs.lemmas.List.{get_or_default, take_min, drop_min}
use Rattle.zplan.specs.declared.range.Range.{Range}
use Rattle.zplan.specs.Ranges.{natural}
use Rattle.zorigin_facts.specs.Facts.{seen_from}
use Rattle.zorigin.proofs.Ranges.{IsGood, good_each, good_in, follows, natural_so}
use Rattle.zorigin_facts.proofs.Positions.{ranges_step}
use Rattle.zorigin_facts.proofs.facts.put_seen_in.Goals as goal

low : (x : Range) → IsGood x → pos 0 ≤ℤ to_z w64 (of_z w64 x.start)
low x g = omega (arith, ints, g.low, g.some, g.high)

plain_start : (x : Range) → IsGood x → to_z w64 (of_z w64 x.start) ≡ x.start
plain_start x g = omega (arith, ints, g.low, g.some, g.high)

plain_n : (x : Range) → IsGood x → to_z w64 (of_z w64 x.n) ≡ x.n
plain_n x g = omega (arith, ints, g.low, g.some, g.high)

high : (x : Range) (k : ℕ) → IsGood x → k ≤ natural x.n → (to_z w64 (of_z w64 x.start) +ℤ pos k) <ℤ pos 9223372036854775809
high x k g h =
    let n : pos (natural x.n) ≡ x.n = natural_so x.n (omega (arith, ints, g.some)) in
    omega (arith, ints, g.low, g.some, g.high, n, h)

pub put_seen-requires-clause-low : goal.put_seen-requires-clause-low
put_seen-requires-clause-low c =
    let ranges = c.args.ranges.now in
    let i = c.loop-range.range-index in
    let x = get_or ranges i (record { start = pos 0; n = pos 0 }) in
    let is : x ≡ get_or ranges i x = get_or_default ranges i _ x c.loop-range-test.true in
    low x (good_in ranges i x (good_each (pos 0) ranges (follows ranges c.requires)) c.loop-range-test.true is)

pub put_seen-requires-clause-high : goal.put_seen-requires-clause-high
put_seen-requires-clause-high c =
    let ranges = c.args.ranges.now in
    let i = c.loop-range.range-index in
    let x = get_or ranges i (record { start = pos 0; n = pos 0 }) in
    let is : x ≡ get_or ranges i x = get_or_default ranges i _ x c.loop-range-test.true in
    let g = good_in ranges i x (good_each (pos 0) ranges (follows ranges c.requires)) c.loop-range-test.true is in
    let number : c.natural.result ≡ natural x.n = c.natural.ensures ∙ ap natural (plain_n x g) in
    let few : length c.split_at.result.0.now ≤ natural x.n = omega (arith, number, c.min.ensures, c.split_at.ensures.front_len) in
    high x (length c.split_at.result.0.now) g few

pub loop-range-preserved : goal.loop-range-preserved
loop-range-preserved c =
    let ranges = c.args.ranges.now in
    let i = c.loop-range.range-index in
    let x = get_or ranges i (record { start = pos 0; n = pos 0 }) in
    let is : x ≡ get_or ranges i x = get_or_default ranges i _ x c.loop-range-test.true in
    let g = good_in ranges i x (good_each (pos 0) ranges (follows ranges c.requires)) c.loop-range-test.true is in
    let number : c.natural.result ≡ natural x.n = c.natural.ensures ∙ ap natural (plain_n x g) in
    let left = c.loop-range.left.now in
    let mid : c.min.result ≡ min (natural x.n) (length left) = c.min.ensures ∙ ap (λ k. min k (length left)) number in
    ranges_step c.args.target c.args.set ranges c.args.records.now left c.split_at.result.0.now c.split_at.result.1.now i x c.args.out.now.items _ _
    c.loop-range-test.true is (omega (arith, ints, g.low))
    (c.split_at.ensures.front ∙ ap (λ k. take k left) mid ∙ take_min (natural x.n) left)
    (c.split_at.ensures.back ∙ ap (λ k. drop k left) mid ∙ drop_min (natural x.n) left)
    c.loop-range.invariant
    (c.in_ok-put_seen.ensures ∙ ap (λ z. c.loop-range.out.items ++ seen_from c.args.target c.args.set z c.split_at.result.0.now) (plain_start x g))
