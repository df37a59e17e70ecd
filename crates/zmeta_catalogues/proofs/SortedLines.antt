-- The lines of a file in the order of what they begin with.
use Rattle.std.proofs.Common.{◌≡◌, ℕ, zero, suc, ◌+◌, ◌<◌, ◌≤◌, Bool, true, false, not, cond, ◌&&◌, leb, ltb, List, [], ◌∷◌, length, take, get_or, position, Option, Some, None, Ordering, Less, Equal, Greater, nat_cmp, is_lt, is_eq, is_gt, refl, sym, ap, ◌∙◌, subst, true≢false, arith, leb-true, leb-false, lt-ltb, le-ltb, eqb, ⊎_elim, unwrap_or}
use Rattle.std.proofs.lemmas.Bool.{cases_lt}
use Rattle.std.proofs.lemmas.Bool.Decides.{nat_tests}
use Rattle.std.proofs.lemmas.Cmp.{nat_list_cmp_total, nat_list_eq_equiv, same_from_slice_cmp}
use Rattle.std.proofs.lemmas.List.Sorted.{searchable_from_sorted, IsPermutation-sym, All-permutation, Contains-permutation}
use Rattle.std.proofs.lemmas.List.Elements.{at_read, AllWithin-none, AllWithin-more, AllWithin-upto, AllWithin-from_all, All-from_all_within, Contains-get_or}
use Rattle.std.proofs.lemmas.List.Sums.{position_or_len_is}
use Rattle.std.specs.Cmp.Lexicographic.{slice_cmp, pointwise}
use Rattle.std.specs.List.{All, AllWithin, HoldsAt, Contains}
use Rattle.std.specs.List.Sorted.{IsPermutation, IsSortedBy, IsNonDecreasingBy, IsPartitionedBy, IsPartitionPoint}
use Rattle.std.specs.Ordering.{ordering_then, ordering_index}
use Rattle.zmeta_catalogues.specs.Lines.{is_key_at, behind_front, ends_key, begins, lines_of, number_at, line_of}
use Rattle.zmeta_catalogues.specs.SortedLines.{IsNumbered, AreNumbered, AreInOrder, AreSorted, order_to, ends_name, lesser, IsLeastNumber, IsLeast}
use Rattle.zmeta_catalogues.specs.declared.sorted_lines.Line.{Line}

-- ---- the order of fronts

then_upto : (o p q : Ordering) → is_lt (ordering_then o p) ≡ false → (is_lt p ≡ false → is_lt q ≡ false)
    → is_lt (ordering_then o q) ≡ false
then_upto Less p q h f = h
then_upto Equal p q h f = f h
then_upto Greater p q h f = refl

-- the fronts of two lists are in the order of the lists
pub front_upto : (n : ℕ) (xs ys : List ℕ) → is_lt (slice_cmp nat_cmp ys xs) ≡ false
    → is_lt (slice_cmp nat_cmp (take n ys) (take n xs)) ≡ false
front_upto zero xs ys h = refl
front_upto (suc n) [] [] h = refl
front_upto (suc n) [] (y ∷ ys) h = refl
front_upto (suc n) (x ∷ xs) [] h = h
front_upto (suc n) (x ∷ xs) (y ∷ ys) h =
    then_upto (nat_cmp y x) (slice_cmp nat_cmp ys xs) (slice_cmp nat_cmp (take n ys) (take n xs)) h
    (front_upto n xs ys)

fronts_in_order : (n : ℕ) (ls : List Line) → AreInOrder ls
    → IsSortedBy (λ (a b : Line). is_lt (slice_cmp nat_cmp (take n a.rest.now) (take n b.rest.now))) ls
fronts_in_order n ls h k d low lt = front_upto n _ _ (h k d low lt)

-- a later line compares no less with a name
pub rises : (name : List ℕ) (ls : List Line) → AreInOrder ls
    → IsNonDecreasingBy (λ (l : Line). ordering_index (order_to name l)) ls
rises name ls h =
    searchable_from_sorted nat_list_cmp_total (λ (l : Line). take (length name) l.rest.now) ls name
    (fronts_in_order (length name) ls h)

before_kept : (a b : Ordering) → ordering_index a ≤ ordering_index b → is_lt b ≡ true → is_lt a ≡ true
before_kept Less b le h = refl
before_kept Equal Less le h = absurd (omega arith)
before_kept Equal Equal le h = h
before_kept Equal Greater le h = h
before_kept Greater Less le h = absurd (omega arith)
before_kept Greater Equal le h = h
before_kept Greater Greater le h = h

upto_kept : (a b : Ordering) → ordering_index a ≤ ordering_index b → not (is_gt b) ≡ true → not (is_gt a) ≡ true
upto_kept Less b le h = refl
upto_kept Equal b le h = refl
upto_kept Greater Less le h = absurd (omega arith)
upto_kept Greater Equal le h = absurd (omega arith)
upto_kept Greater Greater le h = h

-- the lines before those that begin with a name come first
pub parted_before : (name : List ℕ) (ls : List Line) → AreInOrder ls
    → IsPartitionedBy (λ (l : Line). is_lt (order_to name l)) ls
parted_before name ls h i j d le lt p = before_kept _ _ (rises name ls h i j d le lt) p

-- those behind them come last
pub parted_upto : (name : List ℕ) (ls : List Line) → AreInOrder ls
    → IsPartitionedBy (λ (l : Line). not (is_gt (order_to name l))) ls
parted_upto name ls h i j d le lt p = upto_kept _ _ (rises name ls h i j d le lt) p

-- ---- the least number

-- a line that fails the test
pub one_fails : (test : Line → Bool) (ls : List Line) (from at : ℕ) (l : Line) (r : Option ℕ) → at < length ls
    → l ≡ get_or ls at l → test l ≡ false → IsLeast test ls from at r → IsLeast test ls from (at + 1) r
one_fails test ls from at l None lt is fails h =
    AllWithin-more (λ (x : Line). test x ≡ false) ls from at h
    (at_read ls (λ (x : Line). test x ≡ false) at l lt is fails)
one_fails test ls from at l (Some n) lt is fails h = record {
  at = h.at;
  low = h.low;
  high = omega arith;
  passes = h.passes;
  number = h.number;
  least =
      AllWithin-more (λ (x : Line). test x ≡ true → n ≤ x.number) ls from at h.least
      (at_read ls (λ (x : Line). test x ≡ true → n ≤ x.number) at l lt is
      (λ t. absurd (true≢false (sym t ∙ fails))));
}

first_passes : (test : Line → Bool) (ls : List Line) (from at : ℕ) (l : Line) → from ≤ at → at < length ls
    → l ≡ get_or ls at l → test l ≡ true → IsLeast test ls from at None
    → IsLeastNumber test ls from (at + 1) l.number
first_passes test ls from at l low lt is passes h = record {
  at = at;
  low = low;
  high = omega arith;
  passes = at_read ls (λ (x : Line). test x ≡ true) at l lt is passes;
  number = at_read ls (λ (x : Line). x.number ≡ l.number) at l lt is refl;
  least =
      AllWithin-more (λ (x : Line). test x ≡ true → l.number ≤ x.number) ls from at
      (λ k d ge less t. absurd (true≢false (sym t ∙ h k d ge less)))
      (at_read ls (λ (x : Line). test x ≡ true → l.number ≤ x.number) at l lt is (λ t. omega arith));
}

more_passes : (test : Line → Bool) (ls : List Line) (from at : ℕ) (l : Line) (n : ℕ) (b : Bool) → b ≡ leb n l.number
    → from ≤ at → at < length ls → l ≡ get_or ls at l → test l ≡ true → IsLeastNumber test ls from at n
    → IsLeastNumber test ls from (at + 1) (cond b n l.number)
more_passes test ls from at l n true e low lt is passes h =
    let le : n ≤ l.number = leb-true n l.number (sym e) in record {
      at = h.at;
      low = h.low;
      high = omega arith;
      passes = h.passes;
      number = h.number;
      least =
          AllWithin-more (λ (x : Line). test x ≡ true → n ≤ x.number) ls from at h.least
          (at_read ls (λ (x : Line). test x ≡ true → n ≤ x.number) at l lt is (λ t. le));
    }
more_passes test ls from at l n false e low lt is passes h =
    let gt : l.number < n = leb-false n l.number (sym e) in record {
      at = at;
      low = low;
      high = omega arith;
      passes = at_read ls (λ (x : Line). test x ≡ true) at l lt is passes;
      number = at_read ls (λ (x : Line). x.number ≡ l.number) at l lt is refl;
      least =
          AllWithin-more (λ (x : Line). test x ≡ true → l.number ≤ x.number) ls from at
          (λ k d ge less t. let le = h.least k d ge less t in omega arith)
          (at_read ls (λ (x : Line). test x ≡ true → l.number ≤ x.number) at l lt is (λ t. omega arith));
    }

-- a line that passes the test
pub one_passes : (test : Line → Bool) (ls : List Line) (from at : ℕ) (l : Line) (r : Option ℕ) (n : ℕ)
    → from ≤ at → at < length ls → l ≡ get_or ls at l → test l ≡ true → n ≡ lesser r l.number
    → IsLeast test ls from at r → IsLeast test ls from (at + 1) (Some n)
one_passes test ls from at l None n low lt is passes e h =
    subst (λ (m : ℕ). IsLeastNumber test ls from (at + 1) m) (sym e) (first_passes test ls from at l low lt is passes h)
one_passes test ls from at l (Some m) n low lt is passes e h =
    subst (λ (m : ℕ). IsLeastNumber test ls from (at + 1) m) (sym e)
    (more_passes test ls from at l m (leb m l.number) refl low lt is passes h)

-- all lines of the range are seen
pub all_seen : (test : Line → Bool) (ls : List Line) (from to at : ℕ) (r : Option ℕ) → to ≤ at
    → (from ≤ to → at ≤ to) → (to ≤ from → at ≤ from) → IsLeast test ls from at r → IsLeast test ls from to r
all_seen test ls from to at None ge le none h = AllWithin-upto (λ (l : Line). test l ≡ false) ls from at to ge h
all_seen test ls from to at (Some n) ge le none h = record {
  at = h.at;
  low = h.low;
  high = within h.at h.low h.high;
  passes = h.passes;
  number = h.number;
  least = AllWithin-upto (λ (l : Line). test l ≡ true → n ≤ l.number) ls from at to ge h.least;
}
  where
    within : (k : ℕ) → from ≤ k → k < at → k < to
    within k low high =
        ⊎_elim (λ (b : to < from). let e = none (omega arith) in absurd (omega arith))
        (λ (b : from ≤ to). let e = le b in omega arith) (cases_lt to from)

-- ---- the first line of a name

-- a line begins with a name
abbrev is_of : List ℕ → Line → Bool
is_of name l = is_key_at name l.rest.now

ties : (front name : List ℕ) → pointwise eqb name front ≡ is_eq (slice_cmp nat_cmp front name)
ties front name =
    nat_list_eq_equiv.symm name front
    ∙ sym (same_from_slice_cmp nat_cmp is_eq (pointwise eqb) refl (λ _ _. refl) (λ _ _. refl)
    (λ x y xs ys o h. grind (arith, nat_tests)) front name (slice_cmp nat_cmp front name) refl)

splits : (name : List ℕ) (l : Line) → is_of name l ≡ (is_eq (order_to name l) && ends_name (length name) l)
splits name l =
    ap (λ (b : Bool). b && ends_name (length name) l) (ties (take (length name) l.rest.now) name)

apart_before : (o : Ordering) (b : Bool) → is_lt o ≡ true → (is_eq o && b) ≡ false
apart_before Less b h = refl
apart_before Equal b h = absurd (true≢false (sym h))
apart_before Greater b h = refl

apart_behind : (o : Ordering) (b : Bool) → not (is_gt o) ≡ false → (is_eq o && b) ≡ false
apart_behind Less b h = refl
apart_behind Equal b h = absurd (true≢false h)
apart_behind Greater b h = refl

same_within : (o : Ordering) (b : Bool) → is_lt o ≡ false → not (is_gt o) ≡ true → (is_eq o && b) ≡ b
same_within Less b h g = absurd (true≢false h)
same_within Equal b h g = refl
same_within Greater b h g = absurd (true≢false (sym g))

-- where a line stands: before those that begin with the name, behind them, or among them
module _ (name : List ℕ) (ls : List Line) (from to : ℕ)
    (low : IsPartitionPoint (λ (l : Line). is_lt (order_to name l) ≡ true)
    (λ (l : Line). is_lt (order_to name l) ≡ false) ls from)
    (high : IsPartitionPoint (λ (l : Line). not (is_gt (order_to name l)) ≡ true)
    (λ (l : Line). not (is_gt (order_to name l)) ≡ false) ls to) where
  not_before : (k : ℕ) (d : Line) → k < from → is_of name (get_or ls k d) ≡ false
  not_before k d lt =
      splits name (get_or ls k d)
      ∙ apart_before (order_to name (get_or ls k d)) _ (low.0 k d (omega arith) lt)

  not_behind : (k : ℕ) (d : Line) → to ≤ k → k < length ls → is_of name (get_or ls k d) ≡ false
  not_behind k d ge lt =
      splits name (get_or ls k d)
      ∙ apart_behind (order_to name (get_or ls k d)) _ (high.1 k d ge lt)

  among : (k : ℕ) (d : Line) → from ≤ k → k < to → k < length ls
      → is_of name (get_or ls k d) ≡ ends_name (length name) (get_or ls k d)
  among k d ge lt fits =
      splits name (get_or ls k d)
      ∙ same_within (order_to name (get_or ls k d)) _ (low.1 k d ge fits) (high.0 k d (omega arith) lt)

  by_place : (P : Line → Type 0) → ((k : ℕ) (d : Line) → is_of name (get_or ls k d) ≡ false → P (get_or ls k d))
      → ((k : ℕ) (d : Line) → from ≤ k → k < to → k < length ls → P (get_or ls k d)) → All P ls
  by_place P out inside k d lt =
      ⊎_elim (λ (b : k < from). out k d (not_before k d b))
      (λ (b : from ≤ k).
      ⊎_elim (λ (e : k < to). inside k d b e lt) (λ (e : to ≤ k). out k d (not_behind k d e lt)) (cases_lt k to))
      (cases_lt k from)

  -- no line of the range ends the name: none begins with it
  none_of : IsLeast (ends_name (length name)) ls from to None → All (λ (l : Line). is_of name l ≡ false) ls
  none_of h =
      by_place (λ (l : Line). is_of name l ≡ false) (λ k d e. e)
      (λ k d ge lt fits. among k d ge lt fits ∙ h k d ge lt)

  -- the least number of the range is that of all lines
  least_of : (n : ℕ) → to ≤ length ls → IsLeastNumber (ends_name (length name)) ls from to n
      → IsLeastNumber (is_of name) ls 0 (length ls) n
  least_of n fits h = record {
    at = h.at;
    low = omega arith;
    high = let lt = h.high in omega arith;
    passes = λ d. among h.at d h.low h.high (let lt = h.high in omega arith) ∙ h.passes d;
    number = h.number;
    least =
        AllWithin-from_all (λ (l : Line). is_of name l ≡ true → n ≤ l.number) ls
        (by_place (λ (l : Line). is_of name l ≡ true → n ≤ l.number)
        (λ k d e t. absurd (true≢false (sym t ∙ e)))
        (λ k d ge lt less t. h.least k d ge lt (sym (among k d ge lt less) ∙ t)));
  }

not_true : (b : Bool) → (b ≡ true → ⊥) → b ≡ false
not_true true f = absurd (f refl)
not_true false f = refl

-- no list passes
position_none : (p : List ℕ → Bool) (xs : List (List ℕ)) → ((k : ℕ) → k < length xs → p (get_or xs k []) ≡ false)
    → position p xs ≡ None
position_none p xs none =
    ap (λ (n : ℕ). cond (ltb n (length xs)) (Some n) None)
    (position_or_len_is p xs (length xs) [] (omega arith) none (λ lt. absurd (omega arith)))
    ∙ ap (λ (b : Bool). cond b (Some (length xs)) None) (le-ltb (length xs) (length xs) (omega arith))

-- this list is the first that passes
position_some : (p : List ℕ → Bool) (xs : List (List ℕ)) (i : ℕ) → i < length xs → p (get_or xs i []) ≡ true
    → ((k : ℕ) → k < i → p (get_or xs k []) ≡ false) → position p xs ≡ Some i
position_some p xs i lt is none =
    ap (λ (n : ℕ). cond (ltb n (length xs)) (Some n) None)
    (position_or_len_is p xs i [] (omega arith) none (λ _. is))
    ∙ ap (λ (b : Bool). cond b (Some i) None) (lt-ltb i (length xs) lt)

-- a numbered line begins with the name as the line does
begins_at : (name : List ℕ) (lines : List (List ℕ)) (at : ℕ) (l : Line) → IsNumbered lines at l
    → is_of name l ≡ begins name (get_or lines at [])
unfolding begins
begins_at name lines at l h = ap (λ (rest : List ℕ). is_key_at name rest) h.rest

fails_at : (name : List ℕ) (lines : List (List ℕ)) (numbered : List Line) → AreNumbered lines numbered
    → All (λ (l : Line). is_of name l ≡ false) numbered → (k : ℕ) → k < length lines
    → begins name (get_or lines k []) ≡ false
fails_at name lines [] are h k lt = absurd (let e = are.as_many in omega arith)
fails_at name lines (x ∷ xs) are h k lt =
    let fits : k < length (x ∷ xs) = (let e = are.as_many in omega arith) in
    sym (begins_at name lines k (get_or (x ∷ xs) k x) (are.are k x fits)) ∙ h k x fits

none_first : (name : List ℕ) (lines : List (List ℕ)) (numbered : List Line) → AreNumbered lines numbered
    → All (λ (l : Line). is_of name l ≡ false) numbered → 0 ≡ number_at (position (begins name) lines)
none_first name lines numbered are h =
    sym (ap number_at (position_none (begins name) lines (fails_at name lines numbered are h)))

first_of : (name : List ℕ) (lines : List (List ℕ)) (numbered : List Line) → AreNumbered lines numbered → (n : ℕ)
    (l : Line) → Contains numbered l → is_of name l ≡ true → l.number ≡ n
    → All (λ (x : Line). is_of name x ≡ true → n ≤ x.number) numbered
    → n ≡ number_at (position (begins name) lines)
first_of name lines numbered are n l among passes is least =
    let at : ℕ = among.0 in
    let fits : at < length numbered = among.1 in
    let here : IsNumbered lines at l = subst (λ (x : Line). IsNumbered lines at x) among.2 (are.are at l fits) in
    let same : n ≡ at + 1 = sym is ∙ here.number in
    let lt : at < length lines = (let e = are.as_many in omega arith) in
    let there : position (begins name) lines ≡ Some at =
    position_some (begins name) lines at lt (sym (begins_at name lines at l here) ∙ passes)
    (λ k less.
    let fit : k < length numbered = omega arith in
    let x : Line = get_or numbered k l in
    let num : IsNumbered lines k x = are.are k l fit in
    not_true (begins name (get_or lines k []))
    (λ t.
    let le : n ≤ x.number = least k l fit (begins_at name lines k x num ∙ t) in
    let e : x.number ≡ k + 1 = num.number in
    omega arith)) in
    same ∙ sym (ap number_at there)

least_first : (text name : List ℕ) (ls : List Line) (n : ℕ) → AreSorted text ls
    → IsLeastNumber (is_of name) ls 0 (length ls) n → n ≡ line_of text name
least_first text name [] n s h = absurd (let lt = h.high in omega arith)
least_first text name (x ∷ xs) n s h =
    let ls : List Line = x ∷ xs in
    let l : Line = get_or ls h.at x in
    let back : IsPermutation ls s.numbered = IsPermutation-sym s.numbered ls s.same in
    let P : Line → Type 0 = λ (y : Line). is_of name y ≡ true → n ≤ y.number in
    first_of name (lines_of text) s.numbered s.are n l
    (Contains-permutation ls s.numbered l back (Contains-get_or ls h.at x h.high)) (h.passes x) (h.number x)
    (All-permutation P ls s.numbered back (All-from_all_within P ls h.least))

-- the least number of the lines that begin with the name is that of the first
pub line_found : (text name : List ℕ) (ls : List Line) (from to : ℕ) (r : Option ℕ) → AreSorted text ls
    → to ≤ length ls
    → IsPartitionPoint (λ (l : Line). is_lt (order_to name l) ≡ true)
    (λ (l : Line). is_lt (order_to name l) ≡ false) ls from
    → IsPartitionPoint (λ (l : Line). not (is_gt (order_to name l)) ≡ true)
    (λ (l : Line). not (is_gt (order_to name l)) ≡ false) ls to
    → IsLeast (ends_name (length name)) ls from to r → unwrap_or r 0 ≡ line_of text name
line_found text name ls from to None s fits low high h =
    let P : Line → Type 0 = λ (l : Line). is_of name l ≡ false in
    none_first name (lines_of text) s.numbered s.are
    (All-permutation P ls s.numbered (IsPermutation-sym s.numbered ls s.same) (none_of name ls from to low high h))
line_found text name ls from to (Some n) s fits low high h =
    least_first text name ls n s (least_of name ls from to low high n fits h)
