-- Members of lists, and lists of APDUs with distinct reference ids.
use Rattle.std.proofs.Common.{◌≡◌, ◌≢◌, inl, inr, ℕ, Bool, true, false, ◌||◌, List, [], ◌∷◌, ◌++◌, reverse, Option, None, Some, refl, sym, ap, subst, ◌∙◌, true≢false, IsPermutation}
use Rattle.std.specs.Bool.{Decides, one_answer}
use Rattle.std.specs.List.{list_any, flat_map, AllByRecursion, IsDistinct}
use Rattle.std.specs.Str.{bytes_eq}
use Rattle.std.proofs.lemmas.List.{reverse-append, reverse-reverse}
use Rattle.std.proofs.lemmas.Slice.Eq.{bytes_eq-Decides}
use Rattle.std.proofs.lemmas.Map.Keys.{IsDistinct-IsPermutation}
use Rattle.zapdu.specs.declared.apdu.Apdu.{Apdu}
use Rattle.zplan.specs.Positions.{IsIn}
use Rattle.zplan.proofs.Cuts.{in_left, in_right, in_either}
use Rattle.zorigin.specs.Accepts.{id_of}
use Rattle.zorigin.proofs.Members.{of_all}

module _ {X : Type 0} where
  pub reverse_push : (xs : List X) (x : X) → reverse (xs ++ x ∷ []) ≡ x ∷ reverse xs
  reverse_push xs x = reverse-append xs (x ∷ [])

  reverse_cons : (x : X) (xs : List X) → reverse (x ∷ xs) ≡ reverse xs ++ x ∷ []
  reverse_cons x xs = reverse-append (x ∷ []) xs

  pub in_reverse : (x : X) (xs : List X) → IsIn x xs → IsIn x (reverse xs)
  in_reverse x [] i = absurd i
  in_reverse x (y ∷ xs) (inl e) = subst (IsIn x) (sym (reverse_cons y xs)) (in_right x (reverse xs) (y ∷ []) (inl e))
  in_reverse x (y ∷ xs) (inr i) =
      subst (IsIn x) (sym (reverse_cons y xs)) (in_left x (reverse xs) (y ∷ []) (in_reverse x xs i))

  pub of_reverse : (x : X) (xs : List X) → IsIn x (reverse xs) → IsIn x xs
  of_reverse x xs i = subst (IsIn x) (reverse-reverse xs) (in_reverse x (reverse xs) i)

  pub all_of : (P : X → Type 0) (xs : List X) → ((x : X) → IsIn x xs → P x) → AllByRecursion P xs
  all_of P [] h = tt
  all_of P (x ∷ xs) h = (h x (inl refl), all_of P xs (λ y i. h y (inr i)))

  pub any_of : (t : X → Bool) (xs : List X) → list_any t xs ≡ true → (x : X) × IsIn x xs × (t x ≡ true)
  any_of t [] h = absurd (true≢false (sym h))
  any_of t (y ∷ xs) h =
      let more = any_of t xs in
      elim (t y) as (λ b. t y ≡ b → (b || list_any t xs) ≡ true → (x : X) × IsIn x (y ∷ xs) × (t x ≡ true)) [
        | true ↦ λ e g. (y, inl refl, e)
        | false ↦ λ e g. let m = more g in (m.0, inr m.1, m.2)
      ] refl h

-- a member of the joined lists is in the list of one member
pub in_flat : {X Y : Type 0} (f : X → List Y) (xs : List X) (y : Y) → IsIn y (flat_map f xs)
    → (x : X) × IsIn x xs × IsIn y (f x)
in_flat f [] y i = absurd i
in_flat {X} f (x ∷ xs) y i =
    elim (in_either y (f x) (flat_map f xs) i) as (λ _. (z : X) × IsIn z (x ∷ xs) × IsIn y (f z)) [
      | inl j ↦ (x, inl refl, j)
      | inr j ↦ (let m = in_flat f xs y j in (m.0, inr m.1, m.2))
    ]

pub flat_in : {X Y : Type 0} (f : X → List Y) (xs : List X) (x : X) (y : Y) → IsIn x xs → IsIn y (f x)
    → IsIn y (flat_map f xs)
flat_in f [] x y i j = absurd i
flat_in f (z ∷ xs) x y (inl e) j = in_left y (f z) (flat_map f xs) (subst (λ w. IsIn y (f w)) e j)
flat_in f (z ∷ xs) x y (inr i) j = in_right y (f z) (flat_map f xs) (flat_in f xs x y i j)

-- ---- reference ids

abbrev same_id : Option (List ℕ) → Option (List ℕ) → Bool
same_id None None = true
same_id None (Some b) = false
same_id (Some a) None = false
same_id (Some a) (Some b) = bytes_eq a b

same_decides : (a b : Option (List ℕ)) → Decides (same_id a b) (a ≡ b)
same_decides None None = (λ _. refl, λ _. refl)
same_decides None (Some b) = (λ h. absurd (true≢false (sym h)), λ e. absurd (cc))
same_decides (Some a) None = (λ h. absurd (true≢false (sym h)), λ e. absurd (cc))
same_decides (Some a) (Some b) =
    let d = bytes_eq-Decides a b in
    (λ h. ap (λ x. Some x) (d.0 h), λ e. d.1 (let same : a ≡ b = cc in same))

abbrev pub by_id : Apdu → Apdu → Bool
by_id v w = same_id (id_of v) (id_of w)

pub differ : (v w : Apdu) → id_of v ≢ id_of w → by_id v w ≡ false
differ v w h = by (by_id v w) refl
  where
    by : (b : Bool) → by_id v w ≡ b → by_id v w ≡ false
    by false e = e
    by true e = absurd (h ((same_decides (id_of v) (id_of w)).0 e))

pub different : (v w : Apdu) → by_id v w ≡ false → id_of v ≢ id_of w
different v w h e = true≢false (sym ((same_decides (id_of v) (id_of w)).1 e) ∙ h)

flips : (v w : Apdu) → by_id v w ≡ by_id w v
flips v w =
    let there = same_decides (id_of v) (id_of w) in
    let back = same_decides (id_of w) (id_of v) in
    one_answer (by_id v w) (by_id w v) there (λ h. sym (back.0 h), λ e. back.1 (sym e))

-- no two have one reference id
abbrev pub AreApart : List Apdu → Type 0
AreApart vs = IsDistinct by_id vs

pub apart_none : AreApart []
unfolding IsDistinct
apart_none = tt

pub apart_cons : (v : Apdu) (vs : List Apdu) → ((w : Apdu) → IsIn w vs → id_of v ≢ id_of w) → AreApart vs
    → AreApart (v ∷ vs)
unfolding IsDistinct
apart_cons v vs h d = (all_of (λ w. by_id v w ≡ false) vs (λ w i. differ v w (h w i)), d)

pub apart_first : (v : Apdu) (vs : List Apdu) → AreApart (v ∷ vs) → (w : Apdu) → IsIn w vs → id_of v ≢ id_of w
unfolding IsDistinct
apart_first v vs d w i = different v w (of_all (λ x. by_id v x ≡ false) vs w d.0 i)

pub apart_rest : (v : Apdu) (vs : List Apdu) → AreApart (v ∷ vs) → AreApart vs
unfolding IsDistinct
apart_rest v vs d = d.1

pub apart_push : (vs : List Apdu) (v : Apdu) → ((w : Apdu) → IsIn w vs → id_of w ≢ id_of v) → AreApart vs
    → AreApart (vs ++ v ∷ [])
apart_push [] v h d = apart_cons v [] (λ w i. absurd i) apart_none
apart_push (x ∷ vs) v h d =
    apart_cons x (vs ++ v ∷ []) (λ w i. elim (in_either w vs (v ∷ []) i) [
      | inl j ↦ apart_first x vs d w j
      | inr j ↦ elim j [ inl e ↦ subst (λ y. id_of x ≢ id_of y) (sym e) (h x (inl refl)) | inr none ↦ absurd none ]
    ]) (apart_push vs v (λ w i. h w (inr i)) (apart_rest x vs d))

-- an APDU of one part has not the id of an APDU of the other
pub apart_parts : (xs ys : List Apdu) (a b : Apdu) → AreApart (xs ++ ys) → IsIn a xs → IsIn b ys → id_of a ≢ id_of b
apart_parts [] ys a b d i j = absurd i
apart_parts (x ∷ xs) ys a b d (inl e) j =
    subst (λ y. id_of y ≢ id_of b) (sym e) (apart_first x (xs ++ ys) d b (in_right b xs ys j))
apart_parts (x ∷ xs) ys a b d (inr i) j = apart_parts xs ys a b (apart_rest x (xs ++ ys) d) i j

pub apart_moved : (xs ys : List Apdu) → IsPermutation xs ys → AreApart xs → AreApart ys
apart_moved xs ys p d = IsDistinct-IsPermutation by_id flips xs ys p d
