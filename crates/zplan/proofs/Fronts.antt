-- The first list of what is still to be asked, with and without version 3.
use Rattle.std.proofs.Common.{◌≡◌, ◌⊎◌, inl, inr, ℕ, zero, suc, ◌+◌, ◌≤◌, true, false, ◌==◌, List, [], ◌∷◌, ◌++◌, length, refl, sym, ap, subst, ◌∙◌, arith}
use Rattle.std.proofs.lemmas.Bool.Decides.{nat_tests}
use Rattle.std.specs.List.{range_with_len}
use Rattle.zplan.specs.Positions.{join_or_start, is_followed}
use Rattle.zplan.specs.Cutting.{deal}
use Rattle.zplan.proofs.Cuts.{put_false}

same_number : (n : ℕ) → (n == n) ≡ true
same_number n = grind (arith, nat_tests)

-- without version 3: a run that ends with its list, or before a gap
pub deal_run : (last more s m room : ℕ) (left : List ℕ) → ((m ≡ more) × (room ≡ last)) ⊎ ((room + suc m ≡ more) × (is_followed (s + m) left ≡ false))
    → deal false last more (range_with_len s (suc m) ++ left) ≡ range_with_len s (suc m) ∷ deal false last room left
deal_run last zero s zero room left (inl h) = put_false s (deal false last last left) ∙ ap (λ r. (s ∷ []) ∷ deal false last r left) (sym h.1)
deal_run last zero s zero room left (inr h) = absurd (omega (arith, h.0))
deal_run last (suc more) s zero room left (inl h) = absurd (omega (arith, h.0))
deal_run last (suc more) s zero room left (inr h) =
    let e : more ≡ room = omega (arith, h.0) in
    let f : is_followed s left ≡ false = ap (λ z. is_followed z left) (let z : s ≡ s + 0 = omega arith in z) ∙ h.1 in
    ap (λ b. join_or_start b s (deal false last more left)) f ∙ put_false s (deal false last more left) ∙ ap (λ r. (s ∷ []) ∷ deal false last r left) e
deal_run last zero s (suc m) room left (inl h) = absurd (omega (arith, h.0))
deal_run last zero s (suc m) room left (inr h) = absurd (omega (arith, h.0))
deal_run last (suc more) s (suc m) room left h =
    let next : ((m ≡ more) × (room ≡ last)) ⊎ ((room + suc m ≡ more) × (is_followed (s + 1 + m) left ≡ false)) = elim h [
      | inl g ↦ inl (omega (arith, g.0), g.1)
      | inr g ↦ inr (omega (arith, g.0), ap (λ z. is_followed z left) (let z : s + 1 + m ≡ s + suc m = omega arith in z) ∙ g.1)
    ] in
    ap (λ b. join_or_start b s (deal false last more (range_with_len (s + 1) (suc m) ++ left))) (same_number (s + 1)) ∙ ap (join_or_start true s) (deal_run last more (s + 1) m room left next)

-- with version 3: a whole list, or the last one
pub deal_list : (last m p : ℕ) (l left : List ℕ) → (length l ≡ m) ⊎ ((length l ≤ m) × (left ≡ [])) → deal true last m ((p ∷ l) ++ left) ≡ (p ∷ l) ∷ deal true last last left
deal_list last zero p [] left h = put_false p (deal true last last left)
deal_list last (suc m) p [] left (inl h) = absurd (omega (arith, h))
deal_list last (suc m) p [] left (inr h) = subst (λ z. deal true last (suc m) (p ∷ z) ≡ (p ∷ []) ∷ deal true last last z) (sym h.1) refl
deal_list last zero p (q ∷ qs) left (inl h) = absurd (omega (arith, h))
deal_list last zero p (q ∷ qs) left (inr h) = absurd (omega (arith, h.0))
deal_list last (suc m) p (q ∷ qs) left h =
    let next : (length qs ≡ m) ⊎ ((length qs ≤ m) × (left ≡ [])) = elim h [ inl e ↦ inl (omega (arith, e)) | inr g ↦ inr (omega (arith, g.0), g.1) ] in
    ap (join_or_start true p) (deal_list last m q qs left next)
