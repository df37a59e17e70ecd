-- What entries meet of two operands, where the operands are the same and where they are not.
use Rattle.std.proofs.Common.{◌≡◌, refl, sym, ◌∙◌, ℕ, List, [], ◌∷◌, Bool, true, false, not, ◌&&◌, ◌||◌, nat_eq}
use Rattle.std.proofs.lemmas.Bool.{true≢false, and_parts}
use Rattle.std.specs.Bool.{OnTrue}
use Rattle.std.specs.Cmp.Lexicographic.{pointwise, same_text}
use Rattle.ztarget.specs.declared.database.Entry.{Entry}

-- words that are equal one by one
pub same_words : (xs ys : List (List ℕ)) → pointwise (pointwise nat_eq) xs ys ≡ true → xs ≡ ys
same_words [] [] h = refl
same_words [] (y ∷ ys) h = absurd (true≢false (sym h))
same_words (x ∷ xs) [] h = absurd (true≢false (sym h))
same_words (x ∷ xs) (y ∷ ys) h =
    let parts = and_parts (pointwise nat_eq x y) (pointwise (pointwise nat_eq) xs ys) h in
    (λ i. same_text x y (sym parts.0) i ∷ same_words xs ys parts.1 i)

-- part by part
module _ (all left right left' right' : Entry → Bool) (lefts : left ≡ left') (rights : right ≡ right') where
  pub both_meet : all ≡ (λ e. left e && right e) → all ≡ (λ e. left' e && right' e)
  both_meet h = h ∙ (λ i e. lefts i e && rights i e)

  pub either_meets : all ≡ (λ e. left e || right e) → all ≡ (λ e. left' e || right' e)
  either_meets h = h ∙ (λ i e. lefts i e || rights i e)

  pub first_meets : all ≡ (λ e. left e && not (right e)) → all ≡ (λ e. left' e && not (right' e))
  first_meets h = h ∙ (λ i e. lefts i e && not (rights i e))

-- a clause on `true`, where it is told by the equation
pub true_by_equation : (b : Bool) (P : Type 0) → (b ≡ true → P) → OnTrue b P
true_by_equation true P f = f refl
true_by_equation false P f = tt
