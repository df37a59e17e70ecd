-- The places of both of two lists in order, where each of the one is looked for in the other.
use Rattle.std.proofs.Common.{◌≡◌, refl, sym, ◌∙◌, ap, subst, ℕ, zero, suc, ◌+◌, ◌<◌, ◌≤◌, List, [], ◌∷◌, length, filter, get_or, Bool, true, false, ◌&&◌, ◌||◌, cond, nat_eq, ltb, arith, if◌then◌else◌}
use Rattle.std.proofs.lemmas.Bool.{eq-eqb, ne_eqb, ltb-true, ltb-false}
use Rattle.std.proofs.lemmas.List.Sorted.{searched}
use Rattle.std.specs.List.Sorted.{IsBinarySearchResult}
use Rattle.std.specs.Ordering.{nat_cmp}
use Rattle.std.specs.Prelude.{Result, Ok, Err}
use Rattle.std.specs.Result.{is_ok}
use Rattle.ztarget.specs.Merging.{IsAscendingFrom, is_place_among, merged}
use Rattle.ztarget.specs.Narrowing.{IsBoth}
use Rattle.ztarget.specs.Searching.{places_from}
use Rattle.ztarget.proofs.Merges.{places_same, both_places}

-- ---- numbers that ascend

none_below : (n m : ℕ) (xs : List ℕ) → IsAscendingFrom n xs → m < n → is_place_among xs m ≡ false
none_below n m [] up lt = refl
none_below n m (x ∷ xs) up lt =
    ap (λ b. b || is_place_among xs m) (ne_eqb m x (λ same. absurd (omega (arith, up.0, lt, same))))
    ∙ none_below (x + 1) m xs up.1 (omega (arith, up.0, lt))

from_lower : (m n : ℕ) (xs : List ℕ) → n ≤ m → IsAscendingFrom m xs → IsAscendingFrom n xs
from_lower m n [] le up = tt
from_lower m n (x ∷ xs) le up = (omega (arith, le, up.0), up.1)

pub ascending : {X : Type 0} (p : X → Bool) (n : ℕ) (xs : List X) → IsAscendingFrom n (places_from p n xs)
ascending p n [] = tt
ascending p n (x ∷ xs) =
    let later = ascending p (n + 1) xs in
    elim (p x) as (λ b. IsAscendingFrom n (if b then n ∷ places_from p (n + 1) xs else places_from p (n + 1) xs)) [
      | true ↦ (omega arith, later)
      | false ↦ from_lower (n + 1) n (places_from p (n + 1) xs) (omega arith) later
    ]

least : (n : ℕ) (xs : List ℕ) → IsAscendingFrom n xs → (j : ℕ) → j < length xs → n ≤ get_or xs j 0
least n [] up j lt = absurd (omega (arith, lt))
least n (x ∷ xs) up zero lt = up.0
least n (x ∷ xs) up (suc j) lt = let later = least (x + 1) xs up.1 j (omega (arith, lt)) in omega (arith, up.0, later)

rises : (n : ℕ) (xs : List ℕ) → IsAscendingFrom n xs → (i j : ℕ) → i ≤ j → j < length xs → get_or xs i 0 ≤ get_or xs j 0
rises n [] up i j le lt = absurd (omega (arith, lt))
rises n (x ∷ xs) up zero zero le lt = omega arith
rises n (x ∷ xs) up zero (suc j) le lt = let later = least (x + 1) xs up.1 j (omega (arith, lt)) in omega (arith, later)
rises n (x ∷ xs) up (suc i) zero le lt = absurd (omega (arith, le))
rises n (x ∷ xs) up (suc i) (suc j) le lt = rises (x + 1) xs up.1 i j (omega (arith, le)) (omega (arith, lt))

-- ---- one number looked for

stands_at : (xs : List ℕ) (x i : ℕ) → i < length xs → get_or xs i 0 ≡ x → is_place_among xs x ≡ true
stands_at [] x i lt is = absurd (omega (arith, lt))
stands_at (y ∷ ys) x zero lt is = ap (λ b. b || is_place_among ys x) (eq-eqb x y (sym is))
stands_at (y ∷ ys) x (suc i) lt is =
    let later = stands_at ys x i (omega (arith, lt)) is in
    elim (nat_eq x y) as (λ b. (b || is_place_among ys x) ≡ true) [ true ↦ refl | false ↦ later ]

stands_nowhere : (xs : List ℕ) (x : ℕ) → ((k : ℕ) → k < length xs → get_or xs k 0 ≡ x → ⊥) → is_place_among xs x ≡ false
stands_nowhere [] x none = refl
stands_nowhere (y ∷ ys) x none =
    ap (λ b. b || is_place_among ys x) (ne_eqb x y (λ same. none 0 (omega arith) (sym same)))
    ∙ stands_nowhere ys x (λ k lt. none (suc k) (omega (arith, lt)))

pub looked_up : (xs : List ℕ) (x : ℕ) (r : Result ℕ ℕ) → IsBinarySearchResult (λ y. nat_cmp y x) xs r → IsAscendingFrom 0 xs → is_ok r ≡ is_place_among xs x
looked_up xs x (Ok i) told up = let at = searched xs x (Ok i) told (rises 0 xs up) in sym (stands_at xs x i at.0 at.1)
looked_up xs x (Err i) told up =
    let at = searched xs x (Err i) told (rises 0 xs up) in
    sym (stands_nowhere xs x (λ k lt is. apart (ltb k i) k refl lt is (at.1 k) (at.2 k)))
  where
    apart : (b : Bool) (k : ℕ) → ltb k i ≡ b → k < length xs → get_or xs k 0 ≡ x → (k < i → get_or xs k 0 < x) → (i ≤ k → k < length xs → x < get_or xs k 0) → ⊥
    apart true k h lt is below above = let less = below (ltb-true k i h) in omega (arith, is, less)
    apart false k h lt is below above = let more = above (ltb-false k i h) lt in omega (arith, is, more)

-- ---- each of a list

past : (n m : ℕ) (ys xs : List ℕ) → n < m → IsAscendingFrom m xs → filter (is_place_among (n ∷ ys)) xs ≡ filter (is_place_among ys) xs
past n m ys [] lt up = refl
past n m ys (x ∷ xs) lt up =
    ap (λ b. cond (b || is_place_among ys x) (x ∷ filter (is_place_among (n ∷ ys)) xs) (filter (is_place_among (n ∷ ys)) xs)) (ne_eqb x n (λ same. absurd (omega (arith, lt, up.0, same))))
    ∙ ap (λ l. cond (is_place_among ys x) (x ∷ l) l) (past n (x + 1) ys xs (omega (arith, lt, up.0)) up.1)

pub looked_for : {X : Type 0} (p q : X → Bool) (n : ℕ) (xs : List X) → filter (is_place_among (places_from q n xs)) (places_from p n xs) ≡ places_from (λ x. p x && q x) n xs
looked_for p q n [] = refl
looked_for p q n (x ∷ xs) =
    let mine = places_from p (n + 1) xs in
    let theirs = places_from q (n + 1) xs in
    let all = places_from (λ y. p y && q y) (n + 1) xs in
    let next = looked_for p q (n + 1) xs in
    let lt : n < n + 1 = omega arith in
    let further = past n (n + 1) theirs mine lt (ascending p (n + 1) xs) in
    elim (p x) as (λ a. filter (is_place_among (if q x then n ∷ theirs else theirs)) (if a then n ∷ mine else mine) ≡ (if a && q x then n ∷ all else all)) [
      | true ↦ elim (q x) as (λ b. filter (is_place_among (if b then n ∷ theirs else theirs)) (n ∷ mine) ≡ (if b then n ∷ all else all)) [
        | true ↦ ap (λ b. cond (b || is_place_among theirs n) (n ∷ filter (is_place_among (n ∷ theirs)) mine) (filter (is_place_among (n ∷ theirs)) mine)) (eq-eqb n n refl)
            ∙ ap (λ l. n ∷ l) (further ∙ next)
        | false ↦ ap (λ b. cond b (n ∷ filter (is_place_among theirs) mine) (filter (is_place_among theirs) mine)) (none_below (n + 1) n theirs (ascending q (n + 1) xs) lt) ∙ next
      ]
      | false ↦ elim (q x) as (λ b. filter (is_place_among (if b then n ∷ theirs else theirs)) mine ≡ all) [
        | true ↦ further ∙ next
        | false ↦ next
      ]
    ]

module _ (first second found : List ℕ) where
  pub first_looked_for : (IsAscendingFrom 0 second → found ≡ filter (is_place_among second) first) → IsBoth first second found
  first_looked_for told entries q seconds p firsts =
      told (subst (IsAscendingFrom 0) (sym seconds) (ascending q 0 entries))
      ∙ ap (λ l. filter (is_place_among l) first) seconds
      ∙ ap (filter (is_place_among (places_from q 0 entries))) firsts
      ∙ looked_for p q 0 entries

  pub second_looked_for : (IsAscendingFrom 0 first → found ≡ filter (is_place_among first) second) → IsBoth first second found
  second_looked_for told entries q seconds p firsts =
      told (subst (IsAscendingFrom 0) (sym firsts) (ascending p 0 entries))
      ∙ ap (λ l. filter (is_place_among l) second) firsts
      ∙ ap (filter (is_place_among (places_from p 0 entries))) seconds
      ∙ looked_for q p 0 entries
      ∙ places_same (λ e. q e && p e) (λ e. p e && q e) (λ e. either (p e) (q e)) 0 entries
    where
      either : (a b : Bool) → (b && a) ≡ (a && b)
      either true b = elim b as (λ b. (b && true) ≡ b) [ true ↦ refl | false ↦ refl ]
      either false b = elim b as (λ b. (b && false) ≡ false) [ true ↦ refl | false ↦ refl ]

  pub both_walked : found ≡ merged (record { both = true; first = false; second = false }) first second → IsBoth first second found
  both_walked told entries q seconds p firsts =
      told
      ∙ ap (λ l. merged (record { both = true; first = false; second = false }) first l) seconds
      ∙ ap (λ l. merged (record { both = true; first = false; second = false }) l (places_from q 0 entries)) firsts
      ∙ both_places p q 0 entries
