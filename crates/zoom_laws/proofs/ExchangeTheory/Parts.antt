-- Lists that are parts of lists, in their order.
use Rattle.std.proofs.Common.{◌≡◌, ◌⊎◌, inl, inr, ℕ, zero, suc, List, [], ◌∷◌, ◌++◌, Some, refl, sym, ap, subst, ◌∙◌}
use Rattle.std.specs.Prelude.{remove, slice_get}
use Rattle.zplan.specs.Positions.{IsIn}

-- the first list is a part of the second, in its order
abbrev pub IsPart : {X : Type 0} → List X → List X → Type 0
IsPart [] ys = Unit {0}
IsPart (x ∷ xs) [] = ⊥
IsPart (x ∷ xs) (y ∷ ys) = ((x ≡ y) × IsPart xs ys) ⊎ IsPart (x ∷ xs) ys

module _ {X : Type 0} where
  part_skip : (y : X) (xs ys : List X) → IsPart xs ys → IsPart xs (y ∷ ys)
  part_skip y [] ys h = tt
  part_skip y (x ∷ xs) ys h = inr h

  part_self : (xs : List X) → IsPart xs xs
  part_self [] = tt
  part_self (x ∷ xs) = inl (refl, part_self xs)

  part_behind : (ys more : List X) → IsPart more (ys ++ more)
  part_behind [] more = part_self more
  part_behind (y ∷ ys) more = part_skip y more (ys ++ more) (part_behind ys more)

  -- with the same behind both
  pub part_append : (xs ys more : List X) → IsPart xs ys → IsPart (xs ++ more) (ys ++ more)
  part_append [] ys more h = part_behind ys more
  part_append (x ∷ xs) [] more h = absurd h
  part_append (x ∷ xs) (y ∷ ys) more (inl e) = inl (e.0, part_append xs ys more e.1)
  part_append (x ∷ xs) (y ∷ ys) more (inr i) = inr (part_append (x ∷ xs) ys more i)

  pub part_front : (xs ys more : List X) → IsPart xs ys → IsPart xs (ys ++ more)
  part_front [] ys more h = tt
  part_front (x ∷ xs) [] more h = absurd h
  part_front (x ∷ xs) (y ∷ ys) more (inl e) = inl (e.0, part_front xs ys more e.1)
  part_front (x ∷ xs) (y ∷ ys) more (inr i) = inr (part_front (x ∷ xs) ys more i)

  pub part_remove : (xs ys : List X) (k : ℕ) → IsPart xs ys → IsPart (remove xs k) ys
  part_remove [] ys zero h = tt
  part_remove [] ys (suc k) h = tt
  part_remove (x ∷ xs) [] k h = absurd h
  part_remove (x ∷ xs) (y ∷ ys) zero (inl e) = part_skip y xs ys e.1
  part_remove (x ∷ xs) (y ∷ ys) (suc k) (inl e) = inl (e.0, part_remove xs ys k e.1)
  part_remove (x ∷ xs) (y ∷ ys) k (inr i) = part_skip y (remove (x ∷ xs) k) ys (part_remove (x ∷ xs) ys k i)

  pub part_in : (x : X) (xs ys : List X) → IsPart xs ys → IsIn x xs → IsIn x ys
  part_in x [] ys h i = absurd i
  part_in x (z ∷ xs) [] h i = absurd h
  part_in x (z ∷ xs) (y ∷ ys) (inl e) (inl q) = inl (q ∙ e.0)
  part_in x (z ∷ xs) (y ∷ ys) (inl e) (inr j) = inr (part_in x xs ys e.1 j)
  part_in x (z ∷ xs) (y ∷ ys) (inr h) i = inr (part_in x (z ∷ xs) ys h i)

  pub part_none : (xs : List X) → IsPart xs [] → xs ≡ []
  part_none [] h = refl
  part_none (x ∷ xs) h = absurd h

  -- an element with others behind it in a part is not the last of the whole
  pub before_last : (x y z : X) (xs others : List X) → IsPart (x ∷ y ∷ xs) (others ++ z ∷ []) → IsIn x others
  before_last x y z xs [] (inl e) = absurd e.1
  before_last x y z xs [] (inr h) = absurd h
  before_last x y z xs (w ∷ others) (inl e) = inl e.0
  before_last x y z xs (w ∷ others) (inr h) = inr (before_last x y z xs others h)

  -- ---- lists in two parts

  heads : {x y : X} {xs ys : List X} → x ∷ xs ≡ y ∷ ys → x ≡ y
  heads e = cc

  tails : {x y : X} {xs ys : List X} → x ∷ xs ≡ y ∷ ys → xs ≡ ys
  tails e = cc

  no_first : {x : X} {xs : List X} → x ∷ xs ≡ [] → ⊥
  no_first e = cc

  pub left_none : (xs ys : List X) → xs ++ ys ≡ [] → xs ≡ []
  left_none [] ys e = refl
  left_none (x ∷ xs) ys e = absurd (no_first e)

  pub right_none : (xs ys : List X) → xs ++ ys ≡ [] → ys ≡ []
  right_none [] ys e = e
  right_none (x ∷ xs) ys e = absurd (no_first e)

  pub none_in_none : (xs : List X) → ((x : X) → IsIn x xs → ⊥) → xs ≡ []
  none_in_none [] h = refl
  none_in_none (x ∷ xs) h = absurd (h x (inl refl))

  -- the last is the last of the second part, if that is not empty
  pub last_in : (x : X) (xs ys others : List X) → xs ++ ys ≡ others ++ x ∷ [] → (ys ≡ []) ⊎ IsIn x ys
  last_in x [] ys others e = inr (subst (IsIn x) (sym e) (in_last others))
    where
      in_last : (zs : List X) → IsIn x (zs ++ x ∷ [])
      in_last [] = inl refl
      in_last (z ∷ zs) = inr (in_last zs)
  last_in x (y ∷ xs) ys [] e = inl (right_none xs ys (tails e))
  last_in x (y ∷ xs) ys (z ∷ others) e = last_in x xs ys others (tails e)

  -- the last is of the second part, if that is not empty
  pub last_cut : (x : X) (xs a b : List X) → xs ++ x ∷ [] ≡ a ++ b
      → (b ≡ []) ⊎ ((c : List X) × (b ≡ c ++ x ∷ []) × (xs ≡ a ++ c))
  last_cut x xs [] b e = inr (xs, sym e, refl)
  last_cut x [] (y ∷ a) b e = inl (right_none a b (sym (tails e)))
  last_cut x (z ∷ xs) (y ∷ a) b e = elim (last_cut x xs a b (tails e)) [
    | inl none ↦ inl none
    | inr c ↦ inr (c.0, c.1, ap (λ w. w ∷ xs) (heads e) ∙ ap (λ w. y ∷ w) c.2)
  ]

  pub there_in : (xs : List X) (k : ℕ) (x : X) → slice_get xs k ≡ Some x → IsIn x xs
  there_in [] k x e = absurd (cc)
  there_in (y ∷ xs) zero x e = inl (cc)
  there_in (y ∷ xs) (suc k) x e = inr (there_in xs k x e)
