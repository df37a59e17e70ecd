-- The ranges of a question, and of its agenda.
use Rattle.std.proofs.Common.{◌≡◌, ℕ, zero, suc, ◌+◌, ◌<◌, ◌≤◌, List, [], ◌∷◌, ◌++◌, map, refl, sym, ap, subst, ◌∙◌, arith, length-append}
use Rattle.std.proofs.lemmas.List.{length-map}
use Rattle.std.proofs.lemmas.List.FromFn.{length-range_with_len}
use Rattle.std.proofs.lemmas.Int.{ints}
use Rattle.std.specs.Prelude.{ℤ, pos, negsuc, ◌-ℤ◌, int_lt, true, ◌&&◌, length, slice_index_or, ◌^◌}
use Rattle.std.specs.List.{range_with_len, AllByRecursion}
use Rattle.zplan.specs.Positions.{IsWanted, first_of}
use Rattle.zplan.specs.Ranges.{AreWanted, ArePresentRanges, AreInOrder, IsBounded, span_of, places}
use Rattle.zplan.proofs.Cuts.{places_ascend}
use Rattle.zplan.specs.declared.range.Range.{Range}
use Rattle.zorigin.specs.Ranges.{last_of, is_range, are_ranges_after, are_ranges}
use Rattle.zplan.specs.Ranges.{natural, positions, positions_of}
use Rattle.zorigin.proofs.Ranges.{IsGood, good_each, follows, natural_low}

same_places : (rs : List Range) → places (map span_of rs) ≡ positions rs
same_places [] = refl
same_places (r ∷ rs) = ap (λ z. positions_of r ++ z) (same_places rs)

pub wanted_of : (rs : List Range) → AreWanted rs → IsWanted (positions rs)
wanted_of rs a = subst IsWanted (same_places rs) (places_ascend 1 (map span_of rs) a.apart)

abbrev pub no_range : Range
no_range = record { start = pos 0; n = pos 0 }

pub first_at : (r : Range) (rs : List Range) → 0 < natural r.n → first_of (positions (r ∷ rs)) ≡ natural r.start
first_at r rs lo = by (natural r.n) lo
  where
    by : (n : ℕ) → 0 < n → first_of (range_with_len (natural r.start) n ++ positions rs) ≡ natural r.start
    by zero h = absurd (omega arith)
    by (suc n) h = refl

pub first_is : (list : List Range) (d : Range) → ArePresentRanges list
    → (natural (slice_index_or list 0 d).start ≡ first_of (positions list)) × (natural (slice_index_or list 0 d).start ≤ 2 ^ 31)
first_is [] d a = absurd (a.some refl)
first_is (r ∷ rs) d a = (sym (first_at r rs a.order.1), let b = a.bounded.0 in omega (arith, b))

-- ---- ranges that can be asked for

-- a range of a plan, as the origin tests it
range_good : (r : Range) → 1 ≤ natural r.start → 0 < natural r.n
    → natural r.start + natural r.n ≤ 2147483648 → is_range r ≡ true
range_good r low some high = by r.start r.n low some high
  where
    by : (start n : ℤ) → 1 ≤ natural start → 0 < natural n
        → natural start + natural n ≤ 2147483648
        → is_range (record { start = start; n = n }) ≡ true
    by (pos s) (pos n) low some high = grind (arith, ints)
    by (pos s) (negsuc n) low some high = absurd (omega arith)
    by (negsuc s) n low some high = absurd (omega arith)

-- the range begins at `low` or later; its last position is its start plus its length, less 1
range_follows : (low : ℕ) (r : Range) → low ≤ natural r.start → 1 ≤ low → 0 < natural r.n
    → (int_lt (pos low -ℤ pos 1) r.start ≡ true)
    × (last_of r ≡ pos (natural r.start + natural r.n) -ℤ pos 1)
range_follows low r le one some = by r.start r.n le some
  where
    by : (start n : ℤ) → low ≤ natural start → 0 < natural n
        → (int_lt (pos low -ℤ pos 1) start ≡ true)
        × (last_of (record { start = start; n = n }) ≡ pos (natural start + natural n) -ℤ pos 1)
    by (pos s) (pos n) le some = (grind (arith, ints), omega (arith, ints))
    by (pos s) (negsuc n) le some = absurd (omega arith)
    by (negsuc s) n le some = absurd (omega arith)

follow_back : (low : ℕ) (rs : List Range) → 1 ≤ low → AreInOrder low rs → IsBounded (map span_of rs)
    → are_ranges_after (pos low -ℤ pos 1) rs ≡ true
follow_back low [] one order bounded = refl
follow_back low (r ∷ rs) one order bounded =
    let lo = order.0 in
    let good = range_good r (omega (arith, lo, one)) order.1 bounded.0 in
    let f = range_follows low r order.0 one order.1 in
    let later = follow_back (natural r.start + natural r.n) rs (omega (arith, lo, one)) order.2 bounded.1 in
    ap (λ b. b && int_lt (pos low -ℤ pos 1) r.start
    && are_ranges_after (last_of r) rs) good
    ∙ ap (λ b. b && are_ranges_after (last_of r) rs) f.0
    ∙ ap (λ z. are_ranges_after z rs) f.1 ∙ later

-- the origin accepts the ranges that an agenda gives
pub asked_ranges : (rs : List Range) → ArePresentRanges rs → are_ranges rs ≡ true
asked_ranges [] a = absurd (a.some refl)
asked_ranges (r ∷ rs) a = follow_back 1 (r ∷ rs) (omega arith) a.order a.bounded

-- ranges that can be asked for have positions
pub few_ranges : (ranges : List Range) → are_ranges ranges ≡ true → length ranges ≤ length (positions ranges)
few_ranges ranges h = by ranges (good_each (pos 0) ranges (follows ranges h))
  where
    by : (rs : List Range) → AllByRecursion IsGood rs → length rs ≤ length (positions rs)
    by [] a = omega arith
    by (r ∷ rs) a =
        let later = by rs a.1 in
        let some = natural_low r.n a.0.some in
        let n : length (positions (r ∷ rs)) ≡ natural r.n + length (positions rs) =
        length-append (positions_of r) (positions rs)
        ∙ ap (λ k. k + length (positions rs)) (length-range_with_len (natural r.start) (natural r.n)) in
        omega (arith, later, some, n)
