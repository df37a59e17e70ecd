-- Places of a list, after one was changed or added.
use Rattle.std.proofs.Common.{◌≡◌, ◌⊎◌, inl, inr, ℕ, zero, suc, ◌<◌, List, [], ◌∷◌, ◌++◌, map, length, Some, refl, ap, arith}
use Rattle.std.specs.Prelude.{slice_get, slice_set}

module _ {A : Type 0} where
  pub get_set_same : (xs : List A) (i : ℕ) (v : A) → i < length xs → slice_get (slice_set xs i v) i ≡ Some v
  get_set_same [] i v lt = absurd (omega arith)
  get_set_same (x ∷ xs) zero v lt = refl
  get_set_same (x ∷ xs) (suc i) v lt = get_set_same xs i v (omega arith)

  pub get_set_other : (xs : List A) (i c : ℕ) (v : A) → (c ≡ i → ⊥) → slice_get (slice_set xs i v) c ≡ slice_get xs c
  get_set_other [] i c v n = refl
  get_set_other (x ∷ xs) zero zero v n = absurd (n refl)
  get_set_other (x ∷ xs) zero (suc c) v n = refl
  get_set_other (x ∷ xs) (suc i) zero v n = refl
  get_set_other (x ∷ xs) (suc i) (suc c) v n = get_set_other xs i c v (λ e. n (ap suc e))

  -- what stands at a place after one was changed
  pub get_set : (xs : List A) (i c : ℕ) (v w : A) → slice_get (slice_set xs i v) c ≡ Some w
      → ((c ≡ i) × (v ≡ w)) ⊎ ((c ≡ i → ⊥) × (slice_get xs c ≡ Some w))
  get_set [] i c v w h = absurd (cc)
  get_set (x ∷ xs) zero zero v w h = inl (refl, cc)
  get_set (x ∷ xs) zero (suc c) v w h = inr (λ e. absurd (omega arith), h)
  get_set (x ∷ xs) (suc i) zero v w h = inr (λ e. absurd (omega arith), h)
  get_set (x ∷ xs) (suc i) (suc c) v w h = elim (get_set xs i c v w h) [
    | inl s ↦ inl (ap suc s.0, s.1)
    | inr o ↦ inr (λ e. o.0 (omega arith), o.1)
  ]

  -- what stands at a place after one was added
  pub get_last : (xs : List A) (c : ℕ) (v w : A) → slice_get (xs ++ v ∷ []) c ≡ Some w
      → (slice_get xs c ≡ Some w) ⊎ ((c ≡ length xs) × (v ≡ w))
  get_last [] zero v w h = inr (refl, cc)
  get_last [] (suc c) v w h = absurd (cc)
  get_last (x ∷ xs) zero v w h = inl h
  get_last (x ∷ xs) (suc c) v w h = elim (get_last xs c v w h) [ inl e ↦ inl e | inr e ↦ inr (ap suc e.0, e.1) ]

  pub length_set : (xs : List A) (i : ℕ) (v : A) → length (slice_set xs i v) ≡ length xs
  length_set [] i v = refl
  length_set (x ∷ xs) zero v = refl
  length_set (x ∷ xs) (suc i) v = ap suc (length_set xs i v)

  pub some_at : (xs : List A) (c : ℕ) → c < length xs → (x : A) × (slice_get xs c ≡ Some x)
  some_at [] c lt = absurd (omega arith)
  some_at (x ∷ xs) zero lt = (x, refl)
  some_at (x ∷ xs) (suc c) lt = some_at xs c (omega arith)

  -- one place changed to what it is, and changed twice
  pub set_same : (xs : List A) (i : ℕ) (v : A) → slice_get xs i ≡ Some v → slice_set xs i v ≡ xs
  set_same [] i v get = refl
  set_same (x ∷ xs) zero v get = let e : v ≡ x = cc in ap (λ y. y ∷ xs) e
  set_same (x ∷ xs) (suc i) v get = ap (λ l. x ∷ l) (set_same xs i v get)

  pub set_set : (xs : List A) (i : ℕ) (v w : A) → slice_set (slice_set xs i v) i w ≡ slice_set xs i w
  set_set [] i v w = refl
  set_set (x ∷ xs) zero v w = refl
  set_set (x ∷ xs) (suc i) v w = ap (λ l. x ∷ l) (set_set xs i v w)

-- a function of the elements, of a list with one changed
pub map_set : {A B : Type 0} (f : A → B) (xs : List A) (i : ℕ) (v : A) → map f (slice_set xs i v) ≡ slice_set (map f xs) i (f v)
map_set f [] i v = refl
map_set f (x ∷ xs) zero v = refl
map_set f (x ∷ xs) (suc i) v = ap (λ l. f x ∷ l) (map_set f xs i v)
