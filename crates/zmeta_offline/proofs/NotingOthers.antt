-- What is noted of the facts that are no records.
use Rattle.std.proofs.Common.{◌≡◌, ◌∙◌, ◌⊎◌, inl, inr, ⊎_elim, refl, sym, ap, subst, ℕ, true, List, [], ◌∷◌, ◌++◌, drop, append-nil, Option, Some, None, Contains}
use Rattle.std.specs.List.{last_or}
use Rattle.std.specs.Option.{option_map}
use Rattle.std.proofs.lemmas.List.{take-append-drop}
use Rattle.std.proofs.lemmas.List.Elements.{Contains-append_left, Contains-push, Contains-push_cases}
use Rattle.zknow.specs.declared.fact.Fact.{Fact}
use Rattle.zknow.specs.Encodings.{encoding}
use Rattle.zknow.specs.Facts.{fact_target, AreFacts, IsFact}
use Rattle.zknow.specs.List.Listing.{row_key_of}
use Rattle.zknow.specs.Saved.Fronts.{IsTakenFront}
use Rattle.zknow.specs.Saved.Saved.{IsWithinLimits}
use Rattle.zknow.specs.Saved.SavedFacts.{saved_fact}
use Rattle.zknow.specs.Tables.Join.{IsUnion}
use Rattle.zknow.specs.Tables.DistinctLaws.{none_in_nil, in_cons, in_head, in_tail, each_in}
use Rattle.zknow.proofs.SavedTheory.LoadSteps.{said_is_fact}
use Rattle.zknow.proofs.SavedTheory.OneElement.{one_element}
use Rattle.zknow_merge.specs.Inputs.{Input}
use Rattle.zknow_merge.specs.Scans.{Found, IsScan, last_element_of}
use Rattle.zknow_merge.specs.declared.scan.Scan.{Scan}
use Rattle.zknow_runs.specs.Rows.{is_taken}
use Rattle.zknow_runs.specs.declared.rows.Chosen.{Chosen}
use Rattle.zmeta_offline.specs.Marked.{AreOthersOf}
use Rattle.zmeta_offline.specs.Scanned.{IsBehindFact, HasAdded}
use Rattle.zmeta_offline.proofs.SavedEach.{IsAmong, among_cons}
use Rattle.zmeta_offline.proofs.Scanning.{none_ordered}

-- ---- the fact that a scan read last

last_or_end : (facts : List Fact) (f : Fact) (o : Option Fact) → last_or o (facts ++ f ∷ []) ≡ Some f
last_or_end [] f o = refl
last_or_end (x ∷ facts) f o = last_or_end facts f (Some x)

-- its element is the last that was read
last_is : (f : Fact) (s : Scan) (octets : Option (List ℕ)) (b : IsBehindFact f s)
    → ((i : Input) (found : Found) → IsScan i found s → octets ≡ last_element_of found)
    → octets ≡ Some (encoding saved_fact f)
last_is f s octets b is =
    is b.0 (Some (b.1, b.2 ++ f ∷ [])) b.3 ∙ ap (option_map (encoding saved_fact)) (last_or_end b.2 f None)

behind_fits : (f : Fact) (s : Scan) → IsBehindFact f s → IsWithinLimits saved_fact f
behind_fits f s b =
    each_in (IsWithinLimits saved_fact) (b.2 ++ f ∷ []) b.3.read.saved.facts_fit f (Contains-push b.2 f)

some_octets : (a b : List ℕ) → Some a ≡ Some b → a ≡ b
some_octets a b is = Prim.cc is

-- the fact that its element begins with is that fact
read_back : (f g : Fact) (s : Scan) (octets : List ℕ) (size : ℕ) → IsBehindFact f s
    → Some octets ≡ Some (encoding saved_fact f) → IsTakenFront saved_fact octets g size → g ≡ f
read_back f g s octets size behind is taken =
    (one_element saved_fact g f (encoding saved_fact g) (encoding saved_fact f) (drop size octets) [] taken.element
    (behind_fits f s behind)
    (ap (λ (l : List ℕ). l ++ drop size octets) (sym taken.canonical)
    ∙ take-append-drop size octets
    ∙ some_octets octets (encoding saved_fact f) is
    ∙ sym (append-nil (encoding saved_fact f)))).0

-- so it was added, if the fact that its element begins with was
pub added_fact : (f g : Fact) (s : Scan) (octets : List ℕ) (size : ℕ) (old new : List Fact) → IsBehindFact f s
    → ((i : Input) (found : Found) → IsScan i found s → Some octets ≡ last_element_of found)
    → IsTakenFront saved_fact octets g size → AreFacts new → IsUnion (Contains old) (λ x. x ≡ g) (Contains new)
    → HasAdded f old new
added_fact f g s octets size old new behind is taken lawful union = record {
  lawful = lawful;
  union = subst (λ (y : Fact). IsUnion (Contains old) (λ x. x ≡ y) (Contains new))
      (read_back f g s octets size behind (last_is f s (Some octets) behind is) taken) union;
}

-- it is a fact
pub front_is_fact : (g : Fact) (octets : List ℕ) (size : ℕ) → IsTakenFront saved_fact octets g size → IsFact g
front_is_fact g octets size taken = said_is_fact g taken.element.node taken.element.says

-- ---- the facts of chosen catalogues that are no records

-- the same lists by other words
others_moved : (c : Chosen) (a b : List (List Fact)) (others : List Fact)
    → ((g : Fact) → IsAmong a g → IsAmong b g) → ((g : Fact) → IsAmong b g → IsAmong a g)
    → AreOthersOf c a others → AreOthersOf c b others
others_moved c a b others to back h = record {
  lawful = h.lawful;
  members = λ g. (
    λ here. let m = (h.members g).0 here in (to g m.0, m.1, m.2),
    λ m. (h.members g).1 (back g m.0, m.1, m.2),
  );
}

-- none of no files
pub none_noted : (c : Chosen) (others : List Fact) → others ≡ [] → AreOthersOf c ([] ∷ []) others
none_noted c others none = rw none (record {
  lawful = record { ordered = none_ordered; each = tt };
  members = λ g. (
    λ h. absurd (none_in_nil g h),
    λ m. absurd (⊎_elim (λ same. none_in_nil g (subst (λ (l : List Fact). Contains l g) (sym same) m.0.2))
        (λ later. none_in_nil m.0.0 later) (in_cons [] [] m.0.0 m.0.1)),
  );
})

module _ (c : Chosen) (theirs : List (List Fact)) where
  -- a file more
  pub file_noted : (facts others : List Fact) → AreOthersOf c (facts ∷ theirs) others
      → AreOthersOf c ([] ∷ (theirs ++ facts ∷ [])) others
  file_noted facts others h =
      others_moved c (facts ∷ theirs) ([] ∷ (theirs ++ facts ∷ [])) others
      (λ g a. (
        a.0,
        in_tail [] (theirs ++ facts ∷ []) a.0 (⊎_elim
            (λ same. subst (λ (l : List Fact). Contains (theirs ++ facts ∷ []) l) same
            (Contains-push theirs facts))
            (λ later. Contains-append_left theirs (facts ∷ []) a.0 later) (in_cons facts theirs a.0 a.1)),
        a.2,
      ))
      (λ g a. ⊎_elim
      (λ same. absurd (none_in_nil g (subst (λ (l : List Fact). Contains l g) (sym same) a.2)))
      (λ there. ⊎_elim (λ before. (a.0, in_tail facts theirs a.0 before, a.2))
      (λ last. (a.0, subst (λ (l : List Fact). Contains (facts ∷ theirs) l) last (in_head facts theirs), a.2))
      (Contains-push_cases theirs facts a.0 there))
      (in_cons [] (theirs ++ facts ∷ []) a.0 a.1)) h

  -- all files
  pub all_noted : (others : List Fact) → AreOthersOf c ([] ∷ theirs) others → AreOthersOf c theirs others
  all_noted others h =
      others_moved c ([] ∷ theirs) theirs others
      (λ g a. ⊎_elim
      (λ same. absurd (none_in_nil g (subst (λ (l : List Fact). Contains l g) (sym same) a.2)))
      (λ there. (a.0, there, a.2)) (in_cons [] theirs a.0 a.1))
      (λ g a. (a.0, in_tail [] theirs a.0 a.1, a.2)) h

  module _ (facts : List Fact) (f : Fact) where
    among_before : (g : Fact) → IsAmong (facts ∷ theirs) g → IsAmong ((facts ++ f ∷ []) ∷ theirs) g
    among_before g a =
        (among_cons (facts ++ f ∷ []) theirs g).1
        (⊎_elim (λ here. inl (Contains-append_left facts (f ∷ []) g here)) (λ later. inr later)
        ((among_cons facts theirs g).0 a))

    among_last : IsAmong ((facts ++ f ∷ []) ∷ theirs) f
    among_last = (facts ++ f ∷ [], in_head (facts ++ f ∷ []) theirs, Contains-push facts f)

    among_cases : (g : Fact) → IsAmong ((facts ++ f ∷ []) ∷ theirs) g → IsAmong (facts ∷ theirs) g ⊎ (f ≡ g)
    among_cases g a = ⊎_elim
        (λ here. ⊎_elim (λ old. inl ((among_cons facts theirs g).1 (inl old))) (λ same. inr same)
        (Contains-push_cases facts f g here))
        (λ later. inl ((among_cons facts theirs g).1 (inr later)))
        ((among_cons (facts ++ f ∷ []) theirs g).0 a)

    -- the fact is a record, or one of a catalogue that is not chosen
    pub others_same : (others : List Fact) → (row_key_of f ≡ None → is_taken c (fact_target f) ≡ true → ⊥)
        → AreOthersOf c (facts ∷ theirs) others → AreOthersOf c ((facts ++ f ∷ []) ∷ theirs) others
    others_same others never h = record {
      lawful = h.lawful;
      members = λ g. (
        λ here. let m = (h.members g).0 here in (among_before g m.0, m.1, m.2),
        λ m. ⊎_elim (λ old. (h.members g).1 (old, m.1, m.2))
            (λ same. absurd (never (ap row_key_of same ∙ m.1)
            (ap (λ (x : Fact). is_taken c (fact_target x)) same ∙ m.2)))
            (among_cases g m.0),
      );
    }

    -- it is another, and was added
    pub others_more : (old new : List Fact) → row_key_of f ≡ None → is_taken c (fact_target f) ≡ true
        → HasAdded f old new → AreOthersOf c (facts ∷ theirs) old → AreOthersOf c ((facts ++ f ∷ []) ∷ theirs) new
    others_more old new row taken added h = record {
      lawful = added.lawful;
      members = λ g. (
        λ here. ⊎_elim (λ was. let m = (h.members g).0 was in (among_before g m.0, m.1, m.2))
            (λ same. (
              subst (λ (x : Fact). IsAmong ((facts ++ f ∷ []) ∷ theirs) x) (sym same) among_last,
              ap row_key_of same ∙ row,
              ap (λ (x : Fact). is_taken c (fact_target x)) same ∙ taken,
            )) ((added.union g).0 here),
        λ m. ⊎_elim (λ was. (added.union g).1 (inl ((h.members g).1 (was, m.1, m.2))))
            (λ same. (added.union g).1 (inr (sym same))) (among_cases g m.0),
      );
    }
