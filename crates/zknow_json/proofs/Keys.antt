-- Keys that are distinct: those of a list that has no two equal, in its order.
use Rattle.std.proofs.Common.{◌≡◌, ℕ, Bool, true, false, cond, not, List, [], ◌∷◌, ◌++◌, sym, subst, ◌∙◌, ◌⊎◌, inl, inr, arith}
use Rattle.std.specs.Prelude.{⊤, ◌&&◌, All, ◌≢◌}
use Rattle.std.specs.List.{list_all}
use Rattle.std.specs.Str.{bytes_eq}
use Rattle.std.proofs.lemmas.Bool.{and_parts, cond_both}
use Rattle.std.proofs.lemmas.List.Elements.{All-nil, All-cons, All-head, All-tail, All-weaker}
use Rattle.std.proofs.lemmas.List.Kept.{AllPairs-cons}
use Rattle.std.proofs.lemmas.List.Sums.{AllPass-from_list_all}
use Rattle.std.proofs.lemmas.Slice.Eq.{bytes_eq-Decides}
use Rattle.json.specs.Strict.{AreDistinct}

abbrev Names : Type 0
Names = List (List ℕ)

-- these names stand among those, in the same order
abbrev pub ArePart : Names → Names → Type 0
ArePart [] fs = ⊤
ArePart (n ∷ ns) [] = ⊥
ArePart (n ∷ ns) (f ∷ fs) = ((n ≡ f) × ArePart ns fs) ⊎ ArePart (n ∷ ns) fs

longer : (ns : Names) (f : List ℕ) (fs : Names) → ArePart ns fs → ArePart ns (f ∷ fs)
longer [] f fs h = tt
longer (n ∷ ns) f fs h = inr h

pub both_parts : (ns ms fs gs : Names) → ArePart ns fs → ArePart ms gs → ArePart (ns ++ ms) (fs ++ gs)
both_parts [] ms [] gs h k = k
both_parts [] ms (f ∷ fs) gs h k = longer ms f (fs ++ gs) (both_parts [] ms fs gs tt k)
both_parts (n ∷ ns) ms [] gs h k = absurd h
both_parts (n ∷ ns) ms (f ∷ fs) gs (inl h) k = inl (h.0, both_parts ns ms fs gs h.1 k)
both_parts (n ∷ ns) ms (f ∷ fs) gs (inr h) k = inr (both_parts (n ∷ ns) ms fs gs h k)

part_of_part : (ns fs gs : Names) → ArePart ns fs → ArePart fs gs → ArePart ns gs
part_of_part [] fs gs h k = tt
part_of_part (n ∷ ns) [] gs h k = absurd h
part_of_part (n ∷ ns) (f ∷ fs) [] h k = absurd k
part_of_part (n ∷ ns) (f ∷ fs) (g ∷ gs) h (inr k) = inr (part_of_part (n ∷ ns) (f ∷ fs) gs h k)
part_of_part (n ∷ ns) (f ∷ fs) (g ∷ gs) (inl h) (inl k) = inl (h.0 ∙ k.0, part_of_part ns fs gs h.1 k.1)
part_of_part (n ∷ ns) (f ∷ fs) (g ∷ gs) (inr h) (inl k) = inr (part_of_part (n ∷ ns) fs gs h k.1)

-- the test of it
abbrev pub are_part : Names → Names → Bool
are_part [] gs = true
are_part (f ∷ fs) [] = false
are_part (f ∷ fs) (g ∷ gs) = cond (bytes_eq f g) (are_part fs gs) (are_part (f ∷ fs) gs)

part_from_test : (fs gs : Names) → are_part fs gs ≡ true → ArePart fs gs
part_from_test [] gs h = tt
part_from_test (f ∷ fs) [] h = absurd (cc)
part_from_test (f ∷ fs) (g ∷ gs) h =
    cond_both (bytes_eq f g) (are_part fs gs) (are_part (f ∷ fs) gs) (λ b. b ≡ true → ArePart (f ∷ fs) (g ∷ gs))
    (λ e k. inl ((bytes_eq-Decides f g).0 e, part_from_test fs gs k)) (λ e k. inr (part_from_test (f ∷ fs) gs k)) h

pub wider_part : (ns fs gs : Names) → are_part fs gs ≡ true → ArePart ns fs → ArePart ns gs
wider_part ns fs gs t h = part_of_part ns fs gs h (part_from_test fs gs t)

-- ---- distinct

-- no name is there twice
abbrev pub is_distinct : Names → Bool
is_distinct [] = true
is_distinct (f ∷ fs) = list_all (λ g. not (bytes_eq f g)) fs && is_distinct fs

unequal : (f g : List ℕ) → not (bytes_eq f g) ≡ true → f ≢ g
unequal f g h e = let same = (bytes_eq-Decides f g).1 e in absurd (cc)

among : (ns fs : Names) (P : List ℕ → Type 0) → ArePart ns fs → All P fs → All P ns
among [] fs P h k = All-nil P
among (n ∷ ns) [] P h k = absurd h
among (n ∷ ns) (f ∷ fs) P (inl h) k =
    All-cons P n ns (subst P (sym h.0) (All-head P f fs k)) (among ns fs P h.1 (All-tail P f fs k))
among (n ∷ ns) (f ∷ fs) P (inr h) k = among (n ∷ ns) fs P h (All-tail P f fs k)

-- those of a list without two equal are distinct
pub distinct_part : (ns fs : Names) → is_distinct fs ≡ true → ArePart ns fs → AreDistinct ns
distinct_part [] fs d h = λ i j x p q. absurd (omega arith)
distinct_part (n ∷ ns) [] d h = absurd h
distinct_part (n ∷ ns) (f ∷ fs) d (inl h) =
    let parts = and_parts (list_all (λ g. not (bytes_eq f g)) fs) (is_distinct fs) d in
    let others : All (λ g. f ≢ g) fs =
    All-weaker (λ g. not (bytes_eq f g) ≡ true) (λ g. f ≢ g) (unequal f) fs
    (AllPass-from_list_all (λ g. not (bytes_eq f g)) fs parts.0) in
    AllPairs-cons (λ a b. a ≢ b) n ns (subst (λ m. All (λ g. m ≢ g) ns) (sym h.0) (among ns fs (λ g. f ≢ g) h.1 others))
    (distinct_part ns fs parts.1 h.1)
distinct_part (n ∷ ns) (f ∷ fs) d (inr h) =
    distinct_part (n ∷ ns) fs (and_parts (list_all (λ g. not (bytes_eq f g)) fs) (is_distinct fs) d).1 h
