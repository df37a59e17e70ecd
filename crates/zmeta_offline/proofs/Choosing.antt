-- Which questions are chosen.
use Rattle.std.proofs.Common.{◌≡◌, ◌∙◌, sym, subst, refl, arith, ℕ, zero, suc, ◌+◌, ◌<◌, ◌==◌, Bool, true, false, List, [], ◌∷◌, length, slice_get, Some}
use Rattle.std.specs.Prelude.{slice_index_or}
use Rattle.std.specs.Borrow.{Bor}
use Rattle.std.specs.List.{list_any}
use Rattle.std.specs.Str.{bytes_eq}
use Rattle.std.proofs.lemmas.Bool.Decides.{nat_tests}
use Rattle.zmeta_args.specs.Texts.{texts_of}
use Rattle.zmeta_offline.specs.Names.{is_among, is_picked, AreKnown}

-- ---- items by their indexes

-- of borrowed texts
text_in : (xs : List (Bor (List ℕ))) (i : ℕ) (d : Bor (List ℕ)) (x : List ℕ) → slice_get (texts_of xs) i ≡ Some x
    → (slice_index_or xs i d).now ≡ x
text_in [] i d x is = absurd cc
text_in (y ∷ xs) zero d x is = cc
text_in (y ∷ xs) (suc i) d x is = text_in xs i d x is

-- ---- chosen names

among_texts : (only : List (Bor (List ℕ))) (name : List ℕ)
    → list_any (λ (text : Bor (List ℕ)). bytes_eq text.now name) only ≡ is_among (texts_of only) name
among_texts [] name = refl
among_texts (text ∷ only) name = rw (among_texts only name) refl

pub picked_by : (only : List (Bor (List ℕ))) (name : List ℕ) (found : Bool) → 0 < length only
    → found ≡ list_any (λ (text : Bor (List ℕ)). bytes_eq text.now name) only → found ≡ is_picked (texts_of only) name
picked_by [] name found some among = absurd (omega (arith, some))
picked_by (text ∷ only) name found some among = among ∙ among_texts (text ∷ only) name

-- ---- the addresses of the chosen questions

-- ---- names that no question has

pub known_more : (only : List (Bor (List ℕ))) (names : List (List ℕ)) (n : ℕ) (d : Bor (List ℕ))
    → is_among names (slice_index_or only n d).now ≡ true → AreKnown (texts_of only) names n
    → AreKnown (texts_of only) names (n + 1)
known_more only names n d is all c other lt at = by (n == c) refl
  where
    by : (b : Bool) → (n == c) ≡ b → is_among names other ≡ true
    by true e =
        let same : n ≡ c = grind (arith, nat_tests) in
        let text : (slice_index_or only n d).now ≡ other =
        text_in only n d other (subst (λ z. slice_get (texts_of only) z ≡ Some other) (sym same) at) in
        subst (λ z. is_among names z ≡ true) text is
    by false e = all c other (grind (arith, nat_tests)) at
