-- A file is that of one list of facts, or has one fault, and not both.
use Rattle.std.proofs.Common.{◌≡◌, ◌≢◌, ℕ, ◌+◌, List, [], ◌∷◌, ◌++◌, length, refl, sym, ap, subst, ◌∙◌, inl, inr, ⊎_elim, arith, append_assoc, length-append}
use Rattle.std.proofs.lemmas.List.{append-nil}
use Rattle.std.specs.List.Sorted.{IsStrictlySortedBy}
use Rattle.zknow.specs.declared.fact.Fact.{Fact}
use Rattle.zknow.specs.declared.saved.loading.LoadError.{LoadError}
use Rattle.zknow.specs.declared.saved.loading.LoadError.TheVariants.{NotKnowledge, NotCanonical, Memory}
use Rattle.zknow.specs.Encodings.{encoding}
use Rattle.zknow.specs.Facts.{fact_cmp}
use Rattle.zknow.specs.Saved.SavedFacts.{saved_names, saved_fact}
use Rattle.zknow.specs.Saved.Saved.{IsSaved}
use Rattle.zknow.specs.Saved.Loaded.{HasFrontValue, HasNoFrontValue, IsSoundUpTo, IsNoFact, AreNoncanonicalNames, IsNoncanonicalFact, IsNotKnowledge, IsNotCanonical, IsLoadFault}
use Rattle.zknow.proofs.SavedTheory.OneElement.{element_some, one_element}
use Rattle.zknow.proofs.SavedTheory.FactRuns.{bodies, GoesOn, IsStuck, names_same, files_part, no_further}

-- no element stands in no octets
nothing_next : (facts front : List Fact) (after : List ℕ) → GoesOn facts front [] after → ⊥
nothing_next facts front after next =
    omega (arith, element_some saved_fact next.fact (encoding saved_fact next.fact) next.fits, ap length next.follows, length-append (encoding saved_fact next.fact) (bodies next.more ++ after))

-- ---- what stands where no fact may follow

no_fact_stuck : (file : List ℕ) (at : ℕ) (o : IsNoFact file at) → IsStuck o.facts o.rest
no_fact_stuck file at o f after cut fits sorted = o.none f (encoding saved_fact f) after (record { cut = cut; element = fits })

odd_fact_stuck : (file : List ℕ) (at : ℕ) (o : IsNoncanonicalFact file at) → IsStuck o.facts o.rest
odd_fact_stuck file at o f after cut fits sorted =
    let one = one_element saved_fact o.fact f o.spelling (encoding saved_fact f) o.after after o.begins.element fits (sym o.begins.cut ∙ cut) in
    ⊎_elim (λ differs. differs (one.1 ∙ ap (encoding saved_fact) (sym one.0)))
    (λ no. no (subst (λ g. IsStrictlySortedBy fact_cmp (o.facts ++ g ∷ [])) (sym one.0) sorted)) o.odd

module _ (file : List ℕ) where
  -- ---- of one list of facts

  pub saved_once : (names others : List (List ℕ)) (facts more : List Fact) → IsSaved names facts file → IsSaved others more file → (names ≡ others) × (facts ≡ more)
  saved_once names others facts more is of_others = (
    names_same names others facts more file file [] [] is of_others refl,
    ⊎_elim (λ both. both.0) (⊎_elim (λ longer. absurd (nothing_next facts more [] longer)) (λ shorter. absurd (nothing_next more facts [] shorter)))
        (files_part names others facts more file file [] [] is of_others refl),
  )

  -- ---- of the names

  module _ (names : List (List ℕ)) (facts : List Fact) (front rest : List ℕ) (is : IsSaved names facts front) (cut : file ≡ front ++ rest) where
    names_here : HasFrontValue saved_names names file (encoding saved_names names) (bodies facts ++ rest)
    names_here = record { cut = cut ∙ ap (λ l. l ++ rest) is.octets ∙ append_assoc (encoding saved_names names) (bodies facts) rest; element = is.names_fit }

    names_found : HasNoFrontValue saved_names file → ⊥
    names_found none = none names (encoding saved_names names) (bodies facts ++ rest) names_here

    names_even : AreNoncanonicalNames file → ⊥
    names_even o =
        let one = one_element saved_names o.names names o.spelling (encoding saved_names names) o.rest (bodies facts ++ rest) o.begins.element is.names_fit (sym o.begins.cut ∙ names_here.cut) in
        o.odd (one.1 ∙ ap (encoding saved_names) (sym one.0))

  -- ---- of the first fact at fault

  module _ (names others : List (List ℕ)) (facts more : List Fact) (r s : List ℕ) (sound : IsSoundUpTo file names facts r) (stuck : IsStuck facts r) where
    one_place : IsSoundUpTo file others more s → IsStuck more s → (facts ≡ more) × (r ≡ s)
    one_place sounds stucks = ⊎_elim (λ both. both)
        (⊎_elim (λ longer. absurd (no_further facts more s r sound.saved.ordered stucks longer)) (λ shorter. absurd (no_further more facts r s sounds.saved.ordered stuck shorter)))
        (files_part names others facts more sound.front sounds.front r s sound.saved sounds.saved (sym sound.cut ∙ sounds.cut))

    none_saved : IsSaved others more file → ⊥
    none_saved is = ⊎_elim (λ both. omega (arith, ap length both.1, sound.more))
        (⊎_elim (λ longer. nothing_next facts more r longer) (λ shorter. no_further more facts r [] is.ordered stuck shorter))
        (files_part names others facts more sound.front file r [] sound.saved is (sym sound.cut ∙ sym (append-nil file)))

  -- ---- of any fault

  same_index : (a b : ℕ) (facts more : List Fact) → a ≡ length facts + 1 → b ≡ length more + 1 → facts ≡ more → a ≡ b
  same_index a b facts more of_a of_b same = of_a ∙ ap (λ (l : List Fact). length l + 1) same ∙ sym of_b

  both_unknown : (a b : ℕ) → IsNotKnowledge file a → IsNotKnowledge file b → a ≡ b
  both_unknown a b (inl x) (inl y) = x.0 ∙ sym y.0
  both_unknown a b (inl x) (inr y) = absurd (names_found y.names y.facts y.sound.front y.rest y.sound.saved y.sound.cut x.1)
  both_unknown a b (inr x) (inl y) = absurd (names_found x.names x.facts x.sound.front x.rest x.sound.saved x.sound.cut y.1)
  both_unknown a b (inr x) (inr y) = same_index a b x.facts y.facts x.place y.place
      (one_place x.names y.names x.facts y.facts x.rest y.rest x.sound (no_fact_stuck file a x) y.sound (no_fact_stuck file b y)).0

  both_odd : (a b : ℕ) → IsNotCanonical file a → IsNotCanonical file b → a ≡ b
  both_odd a b (inl x) (inl y) = x.0 ∙ sym y.0
  both_odd a b (inl x) (inr y) = absurd (names_even y.names y.facts y.sound.front y.rest y.sound.saved y.sound.cut x.1)
  both_odd a b (inr x) (inl y) = absurd (names_even x.names x.facts x.sound.front x.rest x.sound.saved x.sound.cut y.1)
  both_odd a b (inr x) (inr y) = same_index a b x.facts y.facts x.place y.place
      (one_place x.names y.names x.facts y.facts x.rest y.rest x.sound (odd_fact_stuck file a x) y.sound (odd_fact_stuck file b y)).0

  not_both : (a b : ℕ) → IsNotKnowledge file a → IsNotCanonical file b → ⊥
  not_both a b (inl x) (inl y) = x.1 y.1.names y.1.spelling y.1.rest y.1.begins
  not_both a b (inl x) (inr y) = names_found y.names y.facts y.sound.front y.rest y.sound.saved y.sound.cut x.1
  not_both a b (inr x) (inl y) = names_even x.names x.facts x.sound.front x.rest x.sound.saved x.sound.cut y.1
  not_both a b (inr x) (inr y) =
      let same = (one_place x.names y.names x.facts y.facts x.rest y.rest x.sound (no_fact_stuck file a x) y.sound (odd_fact_stuck file b y)).1 in
      x.none y.fact y.spelling y.after (subst (λ l. HasFrontValue saved_fact y.fact l y.spelling y.after) (sym same) y.begins)

  pub one_fault : (e f : LoadError) → e ≢ Memory → f ≢ Memory → IsLoadFault file e → IsLoadFault file f → e ≡ f
  one_fault Memory f image_found also x y = absurd (image_found refl)
  one_fault (NotKnowledge a) Memory image_found also x y = absurd (also refl)
  one_fault (NotCanonical a) Memory image_found also x y = absurd (also refl)
  one_fault (NotKnowledge a) (NotKnowledge b) image_found also x y = ap NotKnowledge (both_unknown a b x y)
  one_fault (NotKnowledge a) (NotCanonical b) image_found also x y = absurd (not_both a b x y)
  one_fault (NotCanonical a) (NotKnowledge b) image_found also x y = absurd (not_both b a y x)
  one_fault (NotCanonical a) (NotCanonical b) image_found also x y = ap NotCanonical (both_odd a b x y)

  -- ---- a saved file has none

  module _ (names : List (List ℕ)) (facts : List Fact) (is : IsSaved names facts file) where
    found : HasNoFrontValue saved_names file → ⊥
    found = names_found names facts file [] is (sym (append-nil file))

    even : AreNoncanonicalNames file → ⊥
    even = names_even names facts file [] is (sym (append-nil file))

    pub no_fault : (e : LoadError) → IsLoadFault file e → e ≡ Memory
    no_fault Memory fault = refl
    no_fault (NotKnowledge at) (inl x) = absurd (found x.1)
    no_fault (NotKnowledge at) (inr x) = absurd (none_saved x.names names x.facts facts x.rest [] x.sound (no_fact_stuck file at x) is)
    no_fault (NotCanonical at) (inl x) = absurd (even x.1)
    no_fault (NotCanonical at) (inr x) = absurd (none_saved x.names names x.facts facts x.rest [] x.sound (odd_fact_stuck file at x) is)
