-- The positions of ranges, step by step.
use Rattle.std.proofs.Common.{◌≡◌, ℕ, zero, suc, ◌+◌, ◌-◌, ◌<◌, ◌≤◌, leb, ltb, Bool, true, false, cond, ◌&&◌, List, [], ◌∷◌, ◌++◌, length, map, take, drop, get_or, Option, Some, None, refl, sym, ap, ◌∙◌, arith, length-append, length-drop, append_assoc}
use Rattle.std.proofs.lemmas.Bool.Decides.{nat_tests}
use Rattle.std.proofs.lemmas.Bool.{leb-true}
use Rattle.std.proofs.lemmas.List.{at_drop_more, map-append, take_rest, length-take-le, length-map, take-map, drop-map}
use Rattle.std.proofs.lemmas.List.FromFn.{length-range_with_len}
use Rattle.std.specs.List.{range_with_len}
use Rattle.zplan.specs.declared.range.Range.{Range}
use Rattle.zapdu.specs.declared.productions.record.Record.{Record}
use Rattle.zber.proofs.Tests.{both_true}
use Rattle.zplan.specs.Ranges.{natural, positions_of, positions}
use Rattle.ztarget.specs.declared.database.Database.{Database}
use Rattle.ztarget.specs.declared.found.Hit.{Hit}
use Rattle.ztarget.specs.Keeping.{AreHits, found_at, all_found_at, records_at_hits}
use Rattle.ztarget.specs.Showing.{shown_record, size_of, fitting, used_after, fitting_after, used_by, records_held}
use Rattle.ztarget.specs.Positions.{is_in_set, are_in_set, at_positions}

pub left_more : (ranges : List Range) (i : ℕ) (x : Range) → i < length ranges → x ≡ get_or ranges i x → positions (drop i ranges) ≡ positions_of x ++ positions (drop (i + 1) ranges)
left_more ranges i x l e = at_drop_more positions ranges i x l ∙ ap (λ y. positions (y ∷ drop (i + 1) ranges)) (sym e)

pub length_left : (ranges : List Range) (i : ℕ) (x : Range) → i < length ranges → x ≡ get_or ranges i x
    → length (positions (drop i ranges)) ≡ natural x.n + length (positions (drop (i + 1) ranges))
length_left ranges i x l e =
    ap length (left_more ranges i x l e) ∙ length-append (positions_of x) (positions (drop (i + 1) ranges))
    ∙ ap (λ k. k + length (positions (drop (i + 1) ranges))) (length-range_with_len (natural x.start) (natural x.n))

pub in_set_more : (count : ℕ) (ranges : List Range) (i : ℕ) (x : Range) → i < length ranges → x ≡ get_or ranges i x
    → are_in_set count (drop i ranges) ≡ (is_in_set (natural x.start) (natural x.n) count && are_in_set count (drop (i + 1) ranges))
in_set_more count ranges i x l e = at_drop_more (are_in_set count) ranges i x l ∙ ap (λ y. are_in_set count (y ∷ drop (i + 1) ranges)) (sym e)

-- ---- the last position

within_run : (start n i : ℕ) (rest : List ℕ) → i < n → get_or (range_with_len start n ++ rest) i 0 ≡ start + i
within_run start zero i rest h = absurd (omega arith)
within_run start (suc n) zero rest h = omega arith
within_run start (suc n) (suc i) rest h = omega (arith, within_run (start + 1) n i rest (omega arith))

beyond_run : (start n i : ℕ) (rest : List ℕ) → n ≤ i → get_or (range_with_len start n ++ rest) i 0 ≡ get_or rest (i - n) 0
beyond_run start zero i rest h = let e : i ≡ i - 0 = omega arith in ap (λ k. get_or rest k 0) e
beyond_run start (suc n) zero rest h = absurd (omega arith)
beyond_run start (suc n) (suc i) rest h =
    let e : i - n ≡ suc i - suc n = omega arith in
    beyond_run (start + 1) n i rest (omega arith) ∙ ap (λ k. get_or rest k 0) e

pub position_within : (ranges : List Range) (i : ℕ) (x : Range) (left : ℕ) → i < length ranges → x ≡ get_or ranges i x → left < natural x.n
    → get_or (positions (drop i ranges)) left 0 ≡ natural x.start + left
position_within ranges i x left l e h = ap (λ ps. get_or ps left 0) (left_more ranges i x l e) ∙ within_run (natural x.start) (natural x.n) left (positions (drop (i + 1) ranges)) h

pub position_beyond : (ranges : List Range) (i : ℕ) (x : Range) (left : ℕ) → i < length ranges → x ≡ get_or ranges i x → natural x.n ≤ left
    → get_or (positions (drop i ranges)) left 0 ≡ get_or (positions (drop (i + 1) ranges)) (left - natural x.n) 0
position_beyond ranges i x left l e h = ap (λ ps. get_or ps left 0) (left_more ranges i x l e) ∙ beyond_run (natural x.start) (natural x.n) left (positions (drop (i + 1) ranges)) h

-- ---- what stands at them

flat_append : {X : Type 0} (found : List X) (ps qs : List ℕ) → at_positions found (ps ++ qs) ≡ at_positions found ps ++ at_positions found qs
flat_append found [] qs = refl
flat_append found (p ∷ ps) qs = ap (λ l. take 1 (drop (p - 1) found) ++ l) (flat_append found ps qs) ∙ sym (append_assoc (take 1 (drop (p - 1) found)) (at_positions found ps) (at_positions found qs))

drop_none : {X : Type 0} (k : ℕ) → drop {A = X} k [] ≡ []
drop_none zero = refl
drop_none (suc k) = refl

one_more : {X : Type 0} (found : List X) (s n : ℕ) → take (suc n) (drop s found) ≡ take 1 (drop s found) ++ take n (drop (s + 1) found)
one_more [] zero zero = refl
one_more [] zero (suc n) = refl
one_more [] (suc s) zero = refl
one_more [] (suc s) (suc n) = sym (ap (take (suc n)) (drop_none (suc s + 1)))
one_more (f ∷ found) zero n = refl
one_more (f ∷ found) (suc s) n =
    let e : suc s + 1 ≡ suc (s + 1) = omega arith in
    one_more found s n ∙ ap (λ k. take 1 (drop s found) ++ take n (drop k (f ∷ found))) (sym e)

-- a run of positions from 1 on shows one part of the set
pub run_at : {X : Type 0} (found : List X) (s n : ℕ) → 1 ≤ s → at_positions found (range_with_len s n) ≡ take n (drop (s - 1) found)
run_at found s zero h = refl
run_at found s (suc n) h =
    let next : (s + 1) - 1 ≡ (s - 1) + 1 = omega arith in
    ap (λ l. take 1 (drop (s - 1) found) ++ l) (run_at found (s + 1) n (omega arith) ∙ ap (λ k. take n (drop k found)) next)
    ∙ sym (one_more found (s - 1) n)

-- what is made of what stands at them stands at them in what is made
pub at_positions_map : {X Y : Type 0} (f : X → Y) (xs : List X) (ps : List ℕ) → at_positions (map f xs) ps ≡ map f (at_positions xs ps)
at_positions_map f xs [] = refl
at_positions_map f xs (p ∷ ps) =
    (λ i. first i ++ at_positions_map f xs ps i) ∙ sym (map-append f (take 1 (drop (p - 1) xs)) (at_positions xs ps))
  where
    first : take 1 (drop (p - 1) (map f xs)) ≡ map f (take 1 (drop (p - 1) xs))
    first = ap (take 1) (drop-map f (p - 1) xs) ∙ take-map f 1 (drop (p - 1) xs)

-- ---- what is held of them

pub fitting_both : (size used : ℕ) (xs ys : List Record) → fitting size used (xs ++ ys) ≡ fitting size used xs ++ fitting_after size (used_after size used xs) ys
fitting_both size used [] ys = refl
fitting_both size used (x ∷ xs) ys =
    let more = fitting_both size (used + size_of x) xs ys in
    elim (leb (used + size_of x) size) as (λ b. cond b (x ∷ fitting size (used + size_of x) (xs ++ ys)) []
    ≡ cond b (x ∷ fitting size (used + size_of x) xs) [] ++ fitting_after size (cond b (used_after size (used + size_of x) xs) None) ys) [
      | true ↦ ap (λ l. x ∷ l) more
      | false ↦ refl
    ]

pub held_both : (size : ℕ) (xs ys : List Record) → 1 ≤ length xs → records_held size (xs ++ ys) ≡ records_held size xs ++ fitting_after size (used_by size xs) ys
held_both size [] ys h = absurd (omega arith)
held_both size (x ∷ xs) ys h = ap (λ l. x ∷ l) (fitting_both size (size_of x) xs ys)

-- ---- ranges in a set

pub in_set : (s n count : ℕ) → is_in_set s n count ≡ true → (1 ≤ s) × (1 ≤ n) × (s + n ≤ count + 1)
in_set s n count h =
    let two = both_true (leb 1 s && leb 1 n) (leb (s + n) (count + 1)) h in
    let one = both_true (leb 1 s) (leb 1 n) two.0 in
    (leb-true 1 s one.0, leb-true 1 n one.1, leb-true (s + n) (count + 1) two.1)

pub first_in_set : (count : ℕ) (ranges : List Range) (i : ℕ) (x : Range) → i < length ranges → x ≡ get_or ranges i x → are_in_set count (drop i ranges) ≡ true
    → (is_in_set (natural x.start) (natural x.n) count ≡ true) × (are_in_set count (drop (i + 1) ranges) ≡ true)
first_in_set count ranges i x l e h = both_true (is_in_set (natural x.start) (natural x.n) count) (are_in_set count (drop (i + 1) ranges)) (sym (in_set_more count ranges i x l e) ∙ h)

pub within_all : (count : ℕ) (ranges : List Range) (j : ℕ) → are_in_set count ranges ≡ true → get_or (positions ranges) j 0 ≤ count
within_all count [] j h = omega arith
within_all count (r ∷ rs) j h =
    let two = both_true (is_in_set (natural r.start) (natural r.n) count) (are_in_set count rs) h in
    let f = in_set (natural r.start) (natural r.n) count two.0 in
    by (ltb j (natural r.n)) refl f.2 (λ k. within_all count rs k two.1)
  where
    by : (b : Bool) → ltb j (natural r.n) ≡ b → natural r.start + natural r.n ≤ count + 1
        → ((k : ℕ) → get_or (positions rs) k 0 ≤ count) → get_or (positions (r ∷ rs)) j 0 ≤ count
    by true e last rest =
        let less : j < natural r.n = grind (arith, nat_tests) in
        omega (arith, within_run (natural r.start) (natural r.n) j (positions rs) less, last, less)
    by false e last rest =
        let more : natural r.n ≤ j = grind (arith, nat_tests) in
        omega (arith, beyond_run (natural r.start) (natural r.n) j (positions rs) more, rest (j - natural r.n))

-- the part of the set at the positions of one range
pub part_at : {X : Type 0} (found : List X) (s n m1 m2 : ℕ) → is_in_set s n (length found) ≡ true → m1 ≡ s - 1 → m2 ≡ n
    → take m2 (take (length found - m1) (drop m1 found)) ≡ at_positions found (range_with_len s n)
part_at found s n m1 m2 h e f =
    (λ i. take (f i) (take (length found - e i) (drop (e i) found))) ∙ ap (take n) (take_rest found (s - 1)) ∙ sym (run_at found s n (in_set s n (length found) h).0)

pub rest_length : {X : Type 0} (found : List X) (m : ℕ) → length (take (length found - m) (drop m found)) ≡ length found - m
rest_length found m = ap length (take_rest found m) ∙ length-drop m found

pub some_at : {X : Type 0} (found : List X) (s n : ℕ) → is_in_set s n (length found) ≡ true → 1 ≤ length (at_positions found (range_with_len s n))
some_at found s n h =
    let f = in_set s n (length found) h in
    let few : n ≤ length (drop (s - 1) found) = omega (arith, length-drop (s - 1) found, f.0, f.2) in
    omega (arith, ap length (run_at found s n f.0), length-take-le n (drop (s - 1) found) few, f.1)

-- the records of hits, one by one
module _ (size : ℕ) (asked : Option (List ℕ)) (databases : List Database) where
  records_both : (hits more : List Hit) → records_at_hits size asked databases (hits ++ more) ≡ records_at_hits size asked databases hits ++ records_at_hits size asked databases more
  records_both hits more =
      ap (map (shown_record size asked)) (map-append (found_at databases) hits more)
      ∙ map-append (shown_record size asked) (all_found_at databases hits) (all_found_at databases more)

  records_many : (hits : List Hit) → length (records_at_hits size asked databases hits) ≡ length hits
  records_many hits = length-map (all_found_at databases hits) (shown_record size asked) ∙ length-map hits (found_at databases)

  at_more : (hits : List Hit) (ranges : List Range) (i : ℕ) (x : Range) (due : List Hit) → i < length ranges → x ≡ get_or ranges i x → due ≡ at_positions hits (positions_of x)
      → records_at_hits size asked databases (at_positions hits (positions (drop i ranges)))
      ≡ records_at_hits size asked databases due ++ records_at_hits size asked databases (at_positions hits (positions (drop (i + 1) ranges)))
  at_more hits ranges i x due l e d =
      ap (λ ps. records_at_hits size asked databases (at_positions hits ps)) (left_more ranges i x l e)
      ∙ ap (records_at_hits size asked databases) (flat_append hits (positions_of x) (positions (drop (i + 1) ranges)))
      ∙ records_both (at_positions hits (positions_of x)) (at_positions hits (positions (drop (i + 1) ranges)))
      ∙ ap (λ h. records_at_hits size asked databases h ++ records_at_hits size asked databases (at_positions hits (positions (drop (i + 1) ranges)))) (sym d)

  -- the step of a loop over the ranges
  pub held_step : (hits : List Hit) (ranges : List Range) (i : ℕ) (x : Range) (records after : List Record) (used next : Option ℕ) (octets : ℕ) (due : List Hit)
      → i < length ranges → x ≡ get_or ranges i x → used ≡ Some octets → due ≡ at_positions hits (positions_of x)
      → after ≡ records ++ fitting size octets (records_at_hits size asked databases due) → next ≡ used_after size octets (records_at_hits size asked databases due)
      → after ++ fitting_after size next (records_at_hits size asked databases (at_positions hits (positions (drop (i + 1) ranges))))
      ≡ records ++ fitting_after size used (records_at_hits size asked databases (at_positions hits (positions (drop i ranges))))
  held_step hits ranges i x records after used next octets due l e u d a n =
      let xs = records_at_hits size asked databases due in
      let ys = records_at_hits size asked databases (at_positions hits (positions (drop (i + 1) ranges))) in
      (λ j. a j ++ fitting_after size (n j) ys)
      ∙ append_assoc records (fitting size octets xs) (fitting_after size (used_after size octets xs) ys)
      ∙ ap (λ r. records ++ r) (sym (fitting_both size octets xs ys))
      ∙ ap (λ rs. records ++ fitting size octets rs) (sym (at_more hits ranges i x due l e d))
      ∙ ap (λ o. records ++ fitting_after size o (records_at_hits size asked databases (at_positions hits (positions (drop i ranges))))) (sym u)

  -- the first range and then the others
  pub held_first : (hits : List Hit) (ranges : List Range) (x : Range) (first after : List Record) (used : Option ℕ) (due : List Hit)
      → 0 < length ranges → x ≡ get_or ranges 0 x → is_in_set (natural x.start) (natural x.n) (length hits) ≡ true → due ≡ at_positions hits (positions_of x)
      → first ≡ records_held size (records_at_hits size asked databases due) → used ≡ used_by size (records_at_hits size asked databases due)
      → after ≡ first ++ fitting_after size used (records_at_hits size asked databases (at_positions hits (positions (drop 1 ranges))))
      → after ≡ records_held size (records_at_hits size asked databases (at_positions hits (positions ranges)))
  held_first hits ranges x first after used due l e within d h u a =
      let xs = records_at_hits size asked databases due in
      let ys = records_at_hits size asked databases (at_positions hits (positions (drop 1 ranges))) in
      let some : 1 ≤ length xs = omega (arith, records_many due, ap length d, some_at hits (natural x.start) (natural x.n) within) in
      a ∙ (λ j. h j ++ fitting_after size (u j) ys) ∙ sym (held_both size xs ys some) ∙ ap (records_held size) (sym (at_more hits ranges 0 x due l e d))

-- entries stand at the hits at the positions
pub stand_at : (databases : List Database) (hits : List Hit) (ps : List ℕ) → AreHits databases hits → AreHits databases (at_positions hits ps)
stand_at databases hits [] h = tt
stand_at databases hits (p ∷ ps) h = both (drop (p - 1) hits) (at_positions hits ps) (left (p - 1) hits h) (stand_at databases hits ps h)
  where
    left : (k : ℕ) (xs : List Hit) → AreHits databases xs → AreHits databases (drop k xs)
    left zero xs h = h
    left (suc k) [] h = tt
    left (suc k) (x ∷ xs) h = left k xs h.1

    both : (xs ys : List Hit) → AreHits databases xs → AreHits databases ys → AreHits databases (take 1 xs ++ ys)
    both [] ys h g = g
    both (x ∷ xs) ys h g = (h.0, g)
