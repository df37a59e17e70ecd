-- Walking the places of two tests together gives those of the test that the two make.
use Rattle.std.proofs.Common.{◌≡◌, refl, ◌∙◌, ap, ℕ, ◌+◌, ◌<◌, List, [], ◌∷◌, Bool, true, false, not, ◌&&◌, ◌||◌, nat_eq, arith, if◌then◌else◌}
use Rattle.std.specs.List.{AllByRecursion}
use Rattle.std.proofs.lemmas.Bool.{eq-eqb, ne_eqb, lt-ltb, le-ltb}
use Rattle.ztarget.specs.declared.merging.Keep.{Keep}
use Rattle.ztarget.specs.Merging.{cons_if, walked, merged, is_kept_by}
use Rattle.ztarget.specs.Searching.{places_from}

abbrev none : List ℕ
none = []

above : {X : Type 0} (p : X → Bool) (m n : ℕ) (xs : List X) → m < n → AllByRecursion (λ i. m < i) (places_from p n xs)
above p m n [] lt = tt
above p m n (x ∷ xs) lt =
    let later : m < n + 1 = omega (arith, lt) in
    elim (p x) as (λ b. AllByRecursion (λ i. m < i) (if b then n ∷ places_from p (n + 1) xs else places_from p (n + 1) xs)) [
      | true ↦ (lt, above p m (n + 1) xs later)
      | false ↦ above p m (n + 1) xs later
    ]

module _ (keep : Keep) where
  -- the first of the one list is below the other list
  first_alone : (n : ℕ) (rest : List ℕ → List ℕ) (ys : List ℕ) → AllByRecursion (λ i. n < i) ys → walked keep n rest ys ≡ cons_if keep.first n (rest ys)
  first_alone n rest [] all = refl
  first_alone n rest (y ∷ ys) all =
      ap (λ b. if b then cons_if keep.second y (walked keep n rest ys) else if nat_eq y n then cons_if keep.both n (rest ys) else cons_if keep.first n (rest (y ∷ ys))) (le-ltb y n (omega (arith, all.0)))
      ∙ ap (λ b. if b then cons_if keep.both n (rest ys) else cons_if keep.first n (rest (y ∷ ys))) (ne_eqb y n (λ same. absurd (omega (arith, all.0, same))))

  -- the first of the other is below the one
  second_alone : (n : ℕ) (xs ys : List ℕ) → AllByRecursion (λ i. n < i) xs → merged keep xs (n ∷ ys) ≡ cons_if keep.second n (merged keep xs ys)
  second_alone n [] ys all = elim keep.second as (λ b. (if b then n ∷ ys else []) ≡ cons_if b n (if b then ys else [])) [ true ↦ refl | false ↦ refl ]
  second_alone n (x ∷ xs) ys all =
      ap (λ b. if b then cons_if keep.second n (walked keep x (merged keep xs) ys) else if nat_eq n x then cons_if keep.both x (merged keep xs ys) else cons_if keep.first x (merged keep xs (n ∷ ys))) (lt-ltb n x all.0)

  -- they are the same
  in_both : (n : ℕ) (xs ys : List ℕ) → merged keep (n ∷ xs) (n ∷ ys) ≡ cons_if keep.both n (merged keep xs ys)
  in_both n xs ys =
      ap (λ b. if b then cons_if keep.second n (walked keep n (merged keep xs) ys) else if nat_eq n n then cons_if keep.both n (merged keep xs ys) else cons_if keep.first n (merged keep xs (n ∷ ys))) (le-ltb n n (omega arith))
      ∙ ap (λ b. if b then cons_if keep.both n (merged keep xs ys) else cons_if keep.first n (merged keep xs (n ∷ ys))) (eq-eqb n n refl)

  pub merged_places : {X : Type 0} (p q : X → Bool) (n : ℕ) (xs : List X) → merged keep (places_from p n xs) (places_from q n xs) ≡ places_from (λ x. is_kept_by keep (p x) (q x)) n xs
  merged_places p q n [] = elim keep.second as (λ b. (if b then none else none) ≡ none) [ true ↦ refl | false ↦ refl ]
  merged_places p q n (x ∷ xs) =
      let mine = places_from p (n + 1) xs in
      let theirs = places_from q (n + 1) xs in
      let all = places_from (λ y. is_kept_by keep (p y) (q y)) (n + 1) xs in
      let next = merged_places p q (n + 1) xs in
      let lt : n < n + 1 = omega arith in
      elim (p x) as (λ a. merged keep (if a then n ∷ mine else mine) (if q x then n ∷ theirs else theirs) ≡ (if is_kept_by keep a (q x) then n ∷ all else all)) [
        | true ↦ elim (q x) as (λ b. merged keep (n ∷ mine) (if b then n ∷ theirs else theirs) ≡ (if is_kept_by keep true b then n ∷ all else all)) [
          | true ↦ in_both n mine theirs ∙ ap (cons_if keep.both n) next
          | false ↦ first_alone n (merged keep mine) theirs (above q n (n + 1) xs lt) ∙ ap (cons_if keep.first n) next
        ]
        | false ↦ elim (q x) as (λ b. merged keep mine (if b then n ∷ theirs else theirs) ≡ (if is_kept_by keep false b then n ∷ all else all)) [
          | true ↦ second_alone n mine theirs (above p n (n + 1) xs lt) ∙ ap (cons_if keep.second n) next
          | false ↦ next
        ]
      ]

module _ {X : Type 0} where
  pub places_same : (p q : X → Bool) → ((x : X) → p x ≡ q x) → (n : ℕ) (xs : List X) → places_from p n xs ≡ places_from q n xs
  places_same p q same n [] = refl
  places_same p q same n (x ∷ xs) = ap (λ b. if b then n ∷ places_from p (n + 1) xs else places_from p (n + 1) xs) (same x) ∙ ap (λ l. if q x then n ∷ l else l) (places_same p q same (n + 1) xs)

  pub none_places : (n : ℕ) (xs : List X) → places_from (λ x. false) n xs ≡ []
  none_places n [] = refl
  none_places n (x ∷ xs) = none_places (n + 1) xs

  module _ (p q : X → Bool) (n : ℕ) (xs : List X) where
    pub both_places : merged (record { both = true; first = false; second = false }) (places_from p n xs) (places_from q n xs) ≡ places_from (λ x. p x && q x) n xs
    both_places = merged_places (record { both = true; first = false; second = false }) p q n xs
        ∙ places_same _ _ (λ x. elim (p x) as (λ a. is_kept_by (record { both = true; first = false; second = false }) a (q x) ≡ (a && q x)) [
          | true ↦ elim (q x) as (λ b. (if b then true else false) ≡ b) [ true ↦ refl | false ↦ refl ]
          | false ↦ elim (q x) as (λ b. (if b then false else false) ≡ false) [ true ↦ refl | false ↦ refl ]
        ]) n xs

    pub either_places : merged (record { both = true; first = true; second = true }) (places_from p n xs) (places_from q n xs) ≡ places_from (λ x. p x || q x) n xs
    either_places = merged_places (record { both = true; first = true; second = true }) p q n xs
        ∙ places_same _ _ (λ x. elim (p x) as (λ a. is_kept_by (record { both = true; first = true; second = true }) a (q x) ≡ (a || q x)) [
          | true ↦ elim (q x) as (λ b. (if b then true else true) ≡ true) [ true ↦ refl | false ↦ refl ]
          | false ↦ elim (q x) as (λ b. (if b then true else false) ≡ b) [ true ↦ refl | false ↦ refl ]
        ]) n xs

    pub without_places : merged (record { both = false; first = true; second = false }) (places_from p n xs) (places_from q n xs) ≡ places_from (λ x. p x && not (q x)) n xs
    without_places = merged_places (record { both = false; first = true; second = false }) p q n xs
        ∙ places_same _ _ (λ x. elim (p x) as (λ a. is_kept_by (record { both = false; first = true; second = false }) a (q x) ≡ (a && not (q x))) [
          | true ↦ elim (q x) as (λ b. (if b then false else true) ≡ not b) [ true ↦ refl | false ↦ refl ]
          | false ↦ elim (q x) as (λ b. (if b then false else false) ≡ false) [ true ↦ refl | false ↦ refl ]
        ]) n xs
