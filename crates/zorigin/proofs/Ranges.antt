-- Ranges and their positions, step by step.
use Rattle.std.proofs.Common.{◌≡◌, ℕ, zero, suc, ◌+◌, ◌<◌, ◌≤◌, ℤ, pos, negsuc, ◌+ℤ◌, ◌-ℤ◌, ◌≤ℤ◌, ◌<ℤ◌, int_lt, Bool, true, false, ◌||◌, ◌&&◌, List, [], ◌∷◌, ◌++◌, length, drop, get_or, refl, sym, ap, subst, ◌∙◌, true≢false, arith, length-append}
use Rattle.std.proofs.lemmas.Int.{ints, clamps}
use Rattle.std.specs.Int.{int_max}
use Rattle.std.proofs.lemmas.List.{at_drop_more}
use Rattle.std.proofs.lemmas.List.Folds.{list_any-append}
use Rattle.std.proofs.lemmas.List.FromFn.{length-range_with_len}
use Rattle.std.specs.List.{range_with_len, AllByRecursion}
use Rattle.zber.proofs.Tests.{both_true}
use Rattle.zplan.specs.declared.range.Range.{Range}
use Rattle.zorigin.specs.Ranges.{last_of, is_range, are_ranges_after, are_ranges, is_past}
use Rattle.zplan.specs.Positions.{first_of}
use Rattle.zplan.specs.Ranges.{natural, positions_of, positions}

-- ---- what a range that can be asked for is

pub record IsGood (r : Range) : Type 0 where
  pub low : pos 1 ≤ℤ r.start
  pub some : pos 1 ≤ℤ r.n
  pub high : last_of r ≤ℤ pos 2147483647

pub good : (r : Range) → is_range r ≡ true → IsGood r
good r h = record { low = grind (arith, ints); some = grind (arith, ints); high = grind (arith, ints) }

pub natural_so : (z : ℤ) → pos 0 ≤ℤ z → pos (natural z) ≡ z
natural_so (pos n) h = refl
natural_so (negsuc n) h = absurd (omega (arith, ints))

pub natural_low : (z : ℤ) → pos 1 ≤ℤ z → 1 ≤ natural z
natural_low (pos n) h = omega (arith, ints)
natural_low (negsuc n) h = absurd (omega (arith, ints))

-- the first of ranges that follow one another, and the others
pub follow_first : (last : ℤ) (r : Range) (rs : List Range) → are_ranges_after last (r ∷ rs) ≡ true → IsGood r × (last <ℤ r.start) × (are_ranges_after (last_of r) rs ≡ true)
follow_first last r rs h =
    let one = both_true (is_range r && int_lt last r.start) (are_ranges_after (last_of r) rs) h in
    let two = both_true (is_range r) (int_lt last r.start) one.0 in
    (good r two.0, grind (arith, ints), one.1)

pub follows : (ranges : List Range) → are_ranges ranges ≡ true → are_ranges_after (pos 0) ranges ≡ true
follows [] h = refl
follows (r ∷ rs) h = h

-- each of ranges that follow one another is such
pub good_each : (last : ℤ) (ranges : List Range) → are_ranges_after last ranges ≡ true → AllByRecursion IsGood ranges
good_each last [] h = tt
good_each last (r ∷ rs) h = let f = follow_first last r rs h in (f.0, good_each (last_of r) rs f.2)

pub good_in : (ranges : List Range) (i : ℕ) (x : Range) → AllByRecursion IsGood ranges → i < length ranges → x ≡ get_or ranges i x → IsGood x
good_in [] i x h l e = absurd (omega arith)
good_in (r ∷ rs) zero x h l e = subst IsGood (sym e) h.0
good_in (r ∷ rs) (suc i) x h l e = good_in rs i x h.1 (omega arith) e

-- ---- what is left of them

pub left_more : (ranges : List Range) (i : ℕ) (x : Range) → i < length ranges → x ≡ get_or ranges i x → positions (drop i ranges) ≡ positions_of x ++ positions (drop (i + 1) ranges)
left_more ranges i x l e = at_drop_more positions ranges i x l ∙ ap (λ y. positions (y ∷ drop (i + 1) ranges)) (sym e)

pub length_left : (ranges : List Range) (i : ℕ) (x : Range) → i < length ranges → x ≡ get_or ranges i x
    → length (positions (drop i ranges)) ≡ natural x.n + length (positions (drop (i + 1) ranges))
length_left ranges i x l e =
    ap length (left_more ranges i x l e) ∙ length-append (positions_of x) (positions (drop (i + 1) ranges))
    ∙ ap (λ k. k + length (positions (drop (i + 1) ranges))) (length-range_with_len (natural x.start) (natural x.n))

-- ---- past a count

pub past_more : (count : ℤ) (ranges : List Range) (i : ℕ) (x : Range) → i < length ranges → x ≡ get_or ranges i x
    → is_past count (positions (drop i ranges)) ≡ (is_past count (positions_of x) || is_past count (positions (drop (i + 1) ranges)))
past_more count ranges i x l e = ap (is_past count) (left_more ranges i x l e) ∙ list_any-append (λ p. int_lt count (pos p)) (positions_of x) (positions (drop (i + 1) ranges))

within : (count : ℤ) (a n : ℕ) → (pos a +ℤ pos n) ≤ℤ (count +ℤ pos 1) → is_past count (range_with_len a n) ≡ false
within count a zero h = refl
within count a (suc n) h =
    let here : int_lt count (pos a) ≡ false = grind (arith, ints) in
    let more = within count (a + 1) n (omega (arith, ints)) in
    ap (λ b. b || is_past count (range_with_len (a + 1) n)) here ∙ more

beyond : (count : ℤ) (a n : ℕ) → 0 < n → (count +ℤ pos 1) <ℤ (pos a +ℤ pos n) → is_past count (range_with_len a n) ≡ true
beyond count a zero some h = absurd (omega arith)
beyond count a (suc zero) some h = let here : int_lt count (pos a) ≡ true = grind (arith, ints) in ap (λ b. b || false) here
beyond count a (suc (suc n)) some h =
    let more = beyond count (a + 1) (suc n) (omega arith) (omega (arith, ints)) in
    ap (λ b. int_lt count (pos a) || b) more ∙ or_true (int_lt count (pos a))
  where
    or_true : (b : Bool) → (b || true) ≡ true
    or_true true = refl
    or_true false = refl

pub range_within : (count : ℤ) (r : Range) → (pos (natural r.start) +ℤ r.n) ≤ℤ (count +ℤ pos 1) → pos 0 ≤ℤ r.n → is_past count (positions_of r) ≡ false
range_within count r h some =
    let n = natural_so r.n some in
    within count (natural r.start) (natural r.n) (subst (λ k. (pos (natural r.start) +ℤ k) ≤ℤ (count +ℤ pos 1)) (sym n) h)

pub range_beyond : (count : ℤ) (r : Range) → (count +ℤ pos 1) <ℤ (pos (natural r.start) +ℤ r.n) → pos 1 ≤ℤ r.n → is_past count (positions_of r) ≡ true
range_beyond count r h some =
    let n = natural_so r.n (omega (arith, ints)) in
    let have = natural_low r.n some in
    beyond count (natural r.start) (natural r.n) (omega arith) (subst (λ k. (count +ℤ pos 1) <ℤ (pos (natural r.start) +ℤ k)) (sym n) h)

-- ---- the first

pub first_start : (ranges : List Range) → are_ranges ranges ≡ true → (x : Range) → x ≡ get_or ranges 0 x → pos (first_of (positions ranges)) ≡ x.start
first_start [] h x e = absurd (true≢false (sym h))
first_start (r ∷ rs) h x e =
    let g = (follow_first (pos 0) r rs h).0 in
    first (natural r.n) (natural_low r.n g.some) ∙ natural_so r.start (omega (arith, ints, g.low)) ∙ ap (λ (y : Range). y.start) (sym e)
  where
    first : (n : ℕ) → 1 ≤ n → pos (first_of (range_with_len (natural r.start) n ++ positions rs)) ≡ pos (natural r.start)
    first zero h = absurd (omega arith)
    first (suc n) h = refl

-- each position is 1 or later
abbrev pub IsLow : ℕ → Type 0
IsLow p = 1 ≤ p

low_run : (a n : ℕ) (rest : List ℕ) → 1 ≤ a → AllByRecursion IsLow rest → AllByRecursion IsLow (range_with_len a n ++ rest)
low_run a zero rest h k = k
low_run a (suc n) rest h k = (h, low_run (a + 1) n rest (omega arith) k)

pub low_positions : (last : ℤ) (ranges : List Range) → are_ranges_after last ranges ≡ true → AllByRecursion IsLow (positions ranges)
low_positions last [] h = tt
low_positions last (r ∷ rs) h =
    let f = follow_first last r rs h in
    low_run (natural r.start) (natural r.n) (positions rs) (natural_low r.start f.0.low) (low_positions (last_of r) rs f.2)

-- the test of the last position by what is left of the count
pub past_test : (count m : ℤ) (r : Range) → m ≡ pos (natural r.start) → pos 1 ≤ℤ r.n → int_lt (count -ℤ m) (r.n -ℤ pos 1) ≡ is_past count (positions_of r)
past_test count m r e some = by (int_lt (count -ℤ m) (r.n -ℤ pos 1)) refl
  where
    by : (b : Bool) → int_lt (count -ℤ m) (r.n -ℤ pos 1) ≡ b → b ≡ is_past count (positions_of r)
    by true h =
        let more : (count -ℤ m) <ℤ (r.n -ℤ pos 1) = grind (arith, ints) in
        sym (range_beyond count r (omega (arith, ints, e, more)) some)
    by false h =
        let less : (r.n -ℤ pos 1) ≤ℤ (count -ℤ m) = grind (arith, ints) in
        sym (range_within count r (omega (arith, ints, e, less)) (omega (arith, ints, some)))

pub at_zero : (z : ℤ) → int_max z (pos 0) ≡ pos (natural z)
at_zero (pos n) = omega (arith, ints, clamps)
at_zero (negsuc n) = omega (arith, ints, clamps)
