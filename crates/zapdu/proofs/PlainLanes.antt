-- From the mask of one step to the octets that stand unchanged in quotes.
use Rattle.std.proofs.Common.{◌≡◌, ℕ, ◌^◌, ◌<◌, ◌≤◌, ◌%◌, ◌==◌, ◌||◌, ◌&&◌, nat_le, if◌then◌else◌, Bool, true, false, not, List, [], ◌∷◌, ◌++◌, zero, suc, map, length, take, get_or, refl, sym, ap, ap₂, ◌∙◌, arith, inl, inr, rules}
use Rattle.std.specs.List.{flat_map, prefix_len}
use Rattle.std.proofs.lemmas.Bool.{agree_below, agree_below_at, not-true, cases_eq, eq-eqb, ne_eqb, cond-true, cond-false}
use Rattle.std.proofs.lemmas.Simd.{map-map, zip2-map, mask_l-mod, leading_from_mask_l, trailing_mask_l}
use Rattle.std.proofs.lemmas.List.{length-map}
use Rattle.std.proofs.lemmas.List.Sums.{prefix_len-le-length, prefix_len_passes}
use lib.Lanes.{mask_l, top, zip2}
use Rattle.zapdu.specs.Text.{quoted_octet, first_set}

-- an operation on two vectors that were computed lane by lane from v
pub joined : (h : ℕ → ℕ → ℕ) (f g : ℕ → ℕ) (v : List ℕ) {a b : List ℕ} → a ≡ map f v → b ≡ map g v → zip2 h a b ≡ map (λ x. h (f x) (g x)) v
joined h f g v p q = ap₂ (zip2 h) p q ∙ zip2-map h f g v

-- an octet that stands unchanged in quotes
abbrev pub is_plain : ℕ → Bool
is_plain x = nat_le 32 x && (nat_le x 126 && not (x == 34 || x == 92))

chosen : {A : Type 0} (a b c : Bool) (p q r : A) → b && (c && not a) ≡ true → (if a then p else (if b && c then q else r)) ≡ q
chosen true b c p q r is = search rules
chosen false true true p q r is = refl
chosen false true false p q r is = search rules
chosen false false c p q r is = search rules

plain_octet : (x : ℕ) → is_plain x ≡ true → quoted_octet x ≡ x ∷ []
unfolding quoted_octet
plain_octet x is = chosen (x == 34 || x == 92) (nat_le 32 x) (nat_le x 126) _ (x ∷ []) _ is

plain_taken : (v : List ℕ) (r : ℕ) → ((k : ℕ) → k < r → is_plain (get_or v k 0) ≡ true)
    → flat_map quoted_octet (take r v) ≡ take r v
plain_taken [] zero h = refl
plain_taken [] (suc r) h = refl
plain_taken (x ∷ xs) zero h = refl
plain_taken (x ∷ xs) (suc r) h =
    let own = plain_octet x (h 0 (omega arith)) in
    let rest = plain_taken xs r (λ k lt. h (suc k) (omega arith)) in
    λ i. own i ++ rest i

run_is : (p : ℕ → Bool) (v : List ℕ) → length v ≡ 16 → first_set (mask_l (map p v)) ≡ prefix_len (λ x. not (p x)) v
run_is p v long =
    elim (cases_eq (mask_l (map p v)) 0) [
      | inl none ↦ cond-true _ _ _ (eq-eqb _ _ none) ∙ sym (leading_from_mask_l p v none ∙ long)
      | inr some ↦ cond-false _ _ _ (ne_eqb _ _ some) ∙ trailing_mask_l p 64 v (omega arith) (omega arith)
    ]

module _ (v : List ℕ) (r : ℕ) (z : List ℕ) (long : length v ≡ 16) (found : r ≡ first_set (mask_l (map (top 7) z) % 2 ^ 64))
    (f : ℕ → ℕ) (lanes : z ≡ map f v) where
  abbrev stops : ℕ → Bool
  stops x = top 7 (f x)

  counted : r ≡ prefix_len (λ x. not (stops x)) v
  counted =
      let mask = ap (λ l. mask_l l % 2 ^ 64) (ap (map (top 7)) lanes ∙ map-map (top 7) f v) ∙ mask_l-mod (map stops v) 64 (omega (arith, length-map v stops, long)) in
      found ∙ ap first_set mask ∙ run_is stops v long

  pub plain_within : r ≤ 16
  plain_within = omega (arith, counted, long, prefix_len-le-length (λ x. not (stops x)) v)

  -- where each octet at which no lane stops is plain
  pub plain_front : ((k : ℕ) → get_or v k 0 < 256) → agree_below (λ x. stops x || is_plain x) (λ _. true) 256 ≡ true
      → flat_map quoted_octet (take r v) ≡ take r v
  plain_front fits all = plain_taken v r (λ k lt.
      let goes = not-true _ (prefix_len_passes (λ x. not (stops x)) v k 0 (omega (arith, counted))) in
      sym (ap (λ b. b || is_plain (get_or v k 0)) goes) ∙ agree_below_at (λ x. stops x || is_plain x) (λ _. true) 256 (get_or v k 0) all (fits k))
