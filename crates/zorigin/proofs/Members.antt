-- Members of lists.
use Rattle.std.proofs.Common.{◌≡◌, ◌⊎◌, inl, inr, ℕ, ◌<◌, zero, suc, Bool, true, false, cond, ◌||◌, List, [], ◌∷◌, ◌++◌, filter, length, Some, refl, sym, ap, subst, ◌∙◌, arith}
use Rattle.std.specs.Prelude.{Contains, slice_index_or}
use Rattle.std.specs.List.{list_any, find, AllByRecursion}
use Rattle.zplan.specs.Positions.{IsIn}
use Rattle.zplan.proofs.Cuts.{in_either}

pub contained : {X : Type 0} (x : X) (xs : List X) → IsIn x xs → Contains xs x
contained x [] h = absurd h
contained x (y ∷ ys) (inl e) = (0, (let at : 0 < length (y ∷ ys) = omega arith in at), sym e)
contained x (y ∷ ys) (inr i) =
    let more = contained x ys i in
    let at : suc more.0 < length (y ∷ ys) = omega (arith, more.1) in
    (suc more.0, at, more.2)

pub among : {X : Type 0} (x : X) (xs : List X) → Contains xs x → IsIn x xs
among {X} x xs h = by xs h.0 h.1 h.2
  where
    by : (ys : List X) (k : ℕ) → k < length ys → slice_index_or ys k x ≡ x → IsIn x ys
    by [] k h e = absurd (omega arith)
    by (y ∷ ys) zero h e = inl (sym e)
    by (y ∷ ys) (suc k) h e = inr (by ys k (omega arith) e)

module _ {X : Type 0} where
  pub in_push : (x y : X) (xs : List X) → IsIn x (xs ++ y ∷ []) → IsIn x xs ⊎ (x ≡ y)
  in_push x y xs i = elim (in_either x xs (y ∷ []) i) as (λ _. IsIn x xs ⊎ (x ≡ y)) [
    | inl j ↦ inl j
    | inr j ↦ elim j as (λ _. IsIn x xs ⊎ (x ≡ y)) [ inl e ↦ inr e | inr none ↦ absurd none ]
  ]

  pub of_all : (P : X → Type 0) (xs : List X) (x : X) → AllByRecursion P xs → IsIn x xs → P x
  of_all P [] x h i = absurd i
  of_all P (y ∷ xs) x h (inl e) = subst P (sym e) h.0
  of_all P (y ∷ xs) x h (inr i) = of_all P xs x h.1 i

  pub any_in : (t : X → Bool) (xs : List X) (x : X) → IsIn x xs → t x ≡ true → list_any t xs ≡ true
  any_in t [] x i h = absurd i
  any_in t (y ∷ xs) x (inl e) h = let here : t y ≡ true = ap t (sym e) ∙ h in rw here refl
  any_in t (y ∷ xs) x (inr i) h =
      let more = any_in t xs x i h in elim (t y) as (λ b. (b || list_any t xs) ≡ true) [ true ↦ refl | false ↦ more ]

  pub find_in : (t : X → Bool) (xs : List X) (x : X) → find t xs ≡ Some x → IsIn x xs × (t x ≡ true)
  find_in t [] x h = absurd (cc)
  find_in t (y ∷ xs) x h =
      let more = find_in t xs x in
      elim (t y) as (λ b. t y ≡ b → cond b (Some y) (find t xs) ≡ Some x → IsIn x (y ∷ xs) × (t x ≡ true)) [
        | true ↦ λ e g. let same : y ≡ x = cc in (inl (sym same), subst (λ (z : X). t z ≡ true) same e)
        | false ↦ λ e g. let m = more g in (inr m.0, m.1)
      ] refl h

  pub in_filter : (t : X → Bool) (xs : List X) (x : X) → IsIn x xs → t x ≡ true → IsIn x (filter t xs)
  in_filter t [] x i h = absurd i
  in_filter t (y ∷ xs) x (inl e) h = rw (ap t (sym e) ∙ h) (inl e)
  in_filter t (y ∷ xs) x (inr i) h =
      let more = in_filter t xs x i h in
      elim (t y) as (λ b. IsIn x (cond b (y ∷ filter t xs) (filter t xs))) [ true ↦ inr more | false ↦ more ]

  pub of_filter : (t : X → Bool) (xs : List X) (x : X) → IsIn x (filter t xs) → IsIn x xs
  of_filter t [] x i = absurd i
  of_filter t (y ∷ xs) x i =
      elim (t y) as (λ b. IsIn x (cond b (y ∷ filter t xs) (filter t xs)) → IsIn x (y ∷ xs)) [
        | true ↦ λ j. elim j as (λ _. IsIn x (y ∷ xs)) [ inl e ↦ inl e | inr k ↦ inr (of_filter t xs x k) ]
        | false ↦ λ j. inr (of_filter t xs x j)
      ] i
