-- The fault of an input by what its octets show of the next element.
use Rattle.std.proofs.Common.{◌≡◌, ◌<◌, ℕ, true, List, [], ◌∷◌, ◌++◌, length, take, drop, None, sym, ap, subst, ◌∙◌, inl, inr, ⊎_elim, arith, append_assoc, length-append, take-append-drop}
use Rattle.std.proofs.lemmas.List.{append-nil}
use Rattle.std.specs.List.Sorted.{IsStrictlySortedBy}
use Rattle.zknow.specs.declared.fact.Fact.{Fact}
use Rattle.zknow.specs.declared.saved.loading.LoadError.TheVariants as loads
use Rattle.zknow.specs.Facts.{fact_cmp}
use Rattle.zknow.specs.Saved.SavedFacts.{saved_names, saved_fact}
use Rattle.zknow.specs.Saved.Saved.{IsElement}
use Rattle.zknow.specs.Saved.Loaded.{HasNoFrontValue, IsSoundUpTo, IsLoadFault}
use Rattle.zknow.specs.Saved.Fronts.{IsNoncanonical, IsTakenFront}
use Rattle.zknow_merge.specs.declared.front.FrontError.{FrontError}
use Rattle.zknow_merge.specs.declared.front.FrontError.TheVariants.{NoValue, NotCanonical, Unfinished, Memory}
use Rattle.zknow_merge.specs.declared.source.Source.{Source}
use Rattle.zknow_merge.specs.Fronts.{IsFrontFault}
use Rattle.zknow_merge.specs.Inputs.{Input, IsFileOf}
use Rattle.zknow_merge.specs.Sources.{IsReadFrom, HasReadFacts, IsNextFault}
use Rattle.zknow_merge.proofs.SourceTheory.{no_names}

-- what comes behind the octets read, in a file that the input is the front of
behind : (i : Input) (front rest file : List ℕ) → i.octets ≡ front ++ rest → (of : IsFileOf i file) → file ≡ front ++ (rest ++ of.more)
behind i front rest file cut of = of.cut ∙ ap (λ (l : List ℕ). l ++ of.more) cut ∙ append_assoc front rest of.more

-- at its end an input is the file
behind_end : (i : Input) (front rest file : List ℕ) → i.ended ≡ true → i.octets ≡ front ++ rest → IsFileOf i file → file ≡ front ++ rest
behind_end i front rest file ended cut of = of.cut ∙ ap (λ (l : List ℕ). i.octets ++ l) (of.whole ended) ∙ append-nil i.octets ∙ cut

-- ---- the names

no_names_at : (file : List ℕ) (at : ℕ) → at ≡ 0 → HasNoFrontValue saved_names file → IsLoadFault file (loads.NotKnowledge at)
no_names_at file at first none = inl (first, none)

odd_names_at : (file : List ℕ) (at : ℕ) → at ≡ 0 → IsNoncanonical saved_names file → IsLoadFault file (loads.NotCanonical at)
odd_names_at file at first h =
    inl (first, record { names = h.value; spelling = h.spelling; rest = h.rest; begins = h.begins; odd = h.odd })

first_fault : (i : Input) (octets : List ℕ) (at : ℕ) (e : FrontError) → at ≡ 0 → i.octets ≡ [] ++ octets → IsFrontFault saved_names octets e → IsNextFault i at e
first_fault i octets at NoValue first cut h =
    λ file of. no_names_at file at first (subst (HasNoFrontValue saved_names) (sym (behind i [] octets file cut of)) (h of.more))
first_fault i octets at NotCanonical first cut h =
    λ file of. odd_names_at file at first (subst (IsNoncanonical saved_names) (sym (behind i [] octets file cut of)) (h of.more))
first_fault i octets at Unfinished first cut h =
    λ ended file of. no_names_at file at first (subst (HasNoFrontValue saved_names) (sym (behind_end i [] octets file ended cut of)) h)
first_fault i octets at Memory first cut h = tt

pub names_fault : (merged : List Fact) (i : Input) (s : Source) (e : FrontError) → s.names ≡ None → IsReadFrom merged i s → IsFrontFault saved_names s.octets.items e → IsNextFault i s.count e
names_fault merged i s e none r h = ⊎_elim
    (λ n. first_fault i s.octets.items s.count e n.count (subst (λ (l : List ℕ). i.octets ≡ l ++ s.octets.items) n.start r.cut) h)
    (λ f. absurd (no_names f.names s none f.named))
    r.read

-- ---- a fact

module _ (merged : List Fact) (i : Input) (s : Source) (front : List ℕ) (cut : i.octets ≡ front ++ s.octets.items) (some : 0 < length s.octets.items) (r : HasReadFacts merged front s) where
  sound_before : (file : List ℕ) (of : IsFileOf i file) → IsSoundUpTo file r.names r.facts (s.octets.items ++ of.more)
  sound_before file of = record {
    front = front;
    cut = behind i front s.octets.items file cut of;
    saved = r.saved;
    more = omega (arith, some, length-append s.octets.items of.more);
  }

  sound_at_end : (file : List ℕ) → i.ended ≡ true → IsFileOf i file → IsSoundUpTo file r.names r.facts s.octets.items
  sound_at_end file ended of = record {
    front = front;
    cut = behind_end i front s.octets.items file ended cut of;
    saved = r.saved;
    more = some;
  }

  no_fact_at : (file rest : List ℕ) → IsSoundUpTo file r.names r.facts rest → HasNoFrontValue saved_fact rest → IsLoadFault file (loads.NotKnowledge s.count)
  no_fact_at file rest sound none =
      inr (record { names = r.names; facts = r.facts; rest = rest; sound = sound; place = r.count; none = none })

  odd_fact_at : (file rest : List ℕ) → IsSoundUpTo file r.names r.facts rest → IsNoncanonical saved_fact rest → IsLoadFault file (loads.NotCanonical s.count)
  odd_fact_at file rest sound h = inr (record {
    names = r.names;
    facts = r.facts;
    rest = rest;
    sound = sound;
    place = r.count;
    fact = h.value;
    spelling = h.spelling;
    after = h.rest;
    begins = h.begins;
    odd = inl h.odd;
  })

  pub next_fault : (e : FrontError) → IsFrontFault saved_fact s.octets.items e → IsNextFault i s.count e
  next_fault NoValue h = λ file of. no_fact_at file (s.octets.items ++ of.more) (sound_before file of) (h of.more)
  next_fault NotCanonical h = λ file of. odd_fact_at file (s.octets.items ++ of.more) (sound_before file of) (h of.more)
  next_fault Unfinished h = λ ended file of. no_fact_at file s.octets.items (sound_at_end file ended of) h
  next_fault Memory h = tt

  -- a fact that is not above all before it
  pub order_fault : (f : Fact) (size : ℕ) → IsTakenFront saved_fact s.octets.items f size → (IsStrictlySortedBy fact_cmp (r.facts ++ f ∷ []) → ⊥) → (file : List ℕ) → IsFileOf i file → IsLoadFault file (loads.NotCanonical s.count)
  order_fault f size taken never file of = inr (record {
    names = r.names;
    facts = r.facts;
    rest = s.octets.items ++ of.more;
    sound = sound_before file of;
    place = r.count;
    fact = f;
    spelling = take size s.octets.items;
    after = drop size s.octets.items ++ of.more;
    begins = record {
      cut = ap (λ (l : List ℕ). l ++ of.more) (sym (take-append-drop size s.octets.items)) ∙ append_assoc (take size s.octets.items) (drop size s.octets.items) of.more;
      element = subst (IsElement saved_fact f) (sym taken.canonical) taken.element;
    };
    odd = inr never;
  })

pub fact_fault : (merged : List Fact) (i : Input) (s : Source) (e : FrontError) → (s.names ≡ None → ⊥) → 0 < length s.octets.items → IsReadFrom merged i s → IsFrontFault saved_fact s.octets.items e → IsNextFault i s.count e
fact_fault merged i s e named some r h = ⊎_elim
    (λ n. absurd (named n.names))
    (λ f. next_fault merged i s r.front r.cut some f e h)
    r.read
