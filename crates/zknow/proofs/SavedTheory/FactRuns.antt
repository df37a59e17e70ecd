-- Two files begin with the same octets: where their facts part.
use Rattle.std.proofs.Common.{◌≡◌, ◌⊎◌, ℕ, List, [], ◌∷◌, ◌++◌, refl, sym, ap, subst, ◌∙◌, inl, inr, append_assoc}
use Rattle.std.specs.List.{flat_map, AllByRecursion}
use Rattle.std.specs.List.Sorted.{IsStrictlySortedBy}
use Rattle.zknow.specs.declared.fact.Fact.{Fact}
use Rattle.zknow.specs.Encodings.{encoding}
use Rattle.zknow.specs.Facts.{fact_cmp}
use Rattle.zknow.specs.Saved.SavedFacts.{saved_names, saved_fact}
use Rattle.zknow.specs.Saved.Saved.{IsWithinLimits, IsSaved}
use Rattle.zknow.proofs.SavedTheory.OneElement.{one_element, same_rest}

abbrev pub bodies : List Fact → List ℕ
bodies facts = flat_map (encoding saved_fact) facts

abbrev AllFit : List Fact → Type 0
AllFit facts = AllByRecursion (IsWithinLimits saved_fact) facts

-- behind the front the facts go on with one more, and its element stands next
pub record GoesOn (facts front : List Fact) (rest after : List ℕ) : Type 0 where
  pub fact : Fact
  pub more : List Fact
  pub whole : facts ≡ front ++ fact ∷ more
  pub fits : IsWithinLimits saved_fact fact
  pub follows : rest ≡ encoding saved_fact fact ++ (bodies more ++ after)

-- the facts are the same, or those of one go on behind those of the other
abbrev pub Part : List Fact → List Fact → List ℕ → List ℕ → Type 0
Part fs gs r s = ((fs ≡ gs) × (r ≡ s)) ⊎ (GoesOn fs gs s r ⊎ GoesOn gs fs r s)

behind_one : (f g : Fact) (fs gs : List Fact) (rest after : List ℕ) → f ≡ g → GoesOn fs gs rest after → GoesOn (f ∷ fs) (g ∷ gs) rest after
behind_one f g fs gs rest after same next = record {
  fact = next.fact;
  more = next.more;
  whole = ap (λ y. y ∷ fs) same ∙ ap (λ l. g ∷ l) next.whole;
  fits = next.fits;
  follows = next.follows;
}

part_behind : (f g : Fact) (fs gs : List Fact) (r s : List ℕ) → f ≡ g → Part fs gs r s → Part (f ∷ fs) (g ∷ gs) r s
part_behind f g fs gs r s same (inl both) = inl (ap (λ y. y ∷ fs) same ∙ ap (λ l. g ∷ l) both.0, both.1)
part_behind f g fs gs r s same (inr (inl longer)) = inr (inl (behind_one f g fs gs s r same longer))
part_behind f g fs gs r s same (inr (inr shorter)) = inr (inr (behind_one g f gs fs r s (sym same) shorter))

facts_part : (fs gs : List Fact) (r s : List ℕ) → AllFit fs → AllFit gs → bodies fs ++ r ≡ bodies gs ++ s → Part fs gs r s
facts_part [] [] r s of_f of_g same = inl (refl, same)
facts_part (f ∷ fs) [] r s of_f of_g same = inr (inl (record { fact = f; more = fs; whole = refl; fits = of_f.0; follows = sym same ∙ append_assoc (encoding saved_fact f) (bodies fs) r }))
facts_part [] (g ∷ gs) r s of_f of_g same = inr (inr (record { fact = g; more = gs; whole = refl; fits = of_g.0; follows = same ∙ append_assoc (encoding saved_fact g) (bodies gs) s }))
facts_part (f ∷ fs) (g ∷ gs) r s of_f of_g same =
    let lined : encoding saved_fact f ++ (bodies fs ++ r) ≡ encoding saved_fact g ++ (bodies gs ++ s) = sym (append_assoc (encoding saved_fact f) (bodies fs) r) ∙ same ∙ append_assoc (encoding saved_fact g) (bodies gs) s in
    let heads = one_element saved_fact f g (encoding saved_fact f) (encoding saved_fact g) (bodies fs ++ r) (bodies gs ++ s) of_f.0 of_g.0 lined in
    let tails = same_rest saved_fact f g (encoding saved_fact f) (encoding saved_fact g) (bodies fs ++ r) (bodies gs ++ s) of_f.0 of_g.0 lined in
    part_behind f g fs gs r s heads.0 (facts_part fs gs r s of_f.1 of_g.1 tails)

module _ (names others : List (List ℕ)) (fs gs : List Fact) (x y r s : List ℕ) (is : IsSaved names fs x) (of_others : IsSaved others gs y) (same : x ++ r ≡ y ++ s) where
  lined : encoding saved_names names ++ (bodies fs ++ r) ≡ encoding saved_names others ++ (bodies gs ++ s)
  lined = sym (append_assoc (encoding saved_names names) (bodies fs) r) ∙ ap (λ l. l ++ r) (sym is.octets) ∙ same ∙ ap (λ l. l ++ s) of_others.octets ∙ append_assoc (encoding saved_names others) (bodies gs) s

  pub names_same : names ≡ others
  names_same = (one_element saved_names names others (encoding saved_names names) (encoding saved_names others) (bodies fs ++ r) (bodies gs ++ s) is.names_fit of_others.names_fit lined).0

  pub files_part : Part fs gs r s
  files_part = facts_part fs gs r s is.facts_fit of_others.facts_fit
      (same_rest saved_names names others (encoding saved_names names) (encoding saved_names others) (bodies fs ++ r) (bodies gs ++ s) is.names_fit of_others.names_fit lined)

-- ---- no fact may follow

all_front : {X : Type 0} (P : X → Type 0) (xs ys : List X) → AllByRecursion P (xs ++ ys) → AllByRecursion P xs
all_front P [] ys all = tt
all_front P (x ∷ xs) ys all = (all.0, all_front P xs ys all.1)

sorted_front : (xs ys : List Fact) → IsStrictlySortedBy fact_cmp (xs ++ ys) → IsStrictlySortedBy fact_cmp xs
unfolding IsStrictlySortedBy
sorted_front [] ys sorted = tt
sorted_front (x ∷ xs) ys sorted = (all_front _ xs ys sorted.0, sorted_front xs ys sorted.1)

-- the octets begin with no fact's canonical element that may stand behind these facts
abbrev pub IsStuck : List Fact → List ℕ → Type 0
IsStuck facts rest = (f : Fact) (after : List ℕ) → rest ≡ encoding saved_fact f ++ after → IsWithinLimits saved_fact f → IsStrictlySortedBy fact_cmp (facts ++ f ∷ []) → ⊥

pub no_further : (facts front : List Fact) (rest after : List ℕ) → IsStrictlySortedBy fact_cmp facts → IsStuck front rest → GoesOn facts front rest after → ⊥
no_further facts front rest after sorted stuck next =
    let whole : facts ≡ (front ++ next.fact ∷ []) ++ next.more = next.whole ∙ sym (append_assoc front (next.fact ∷ []) next.more) in
    stuck next.fact (bodies next.more ++ after) next.follows next.fits (sorted_front (front ++ next.fact ∷ []) next.more (subst (IsStrictlySortedBy fact_cmp) whole sorted))
