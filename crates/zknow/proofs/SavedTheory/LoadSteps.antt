-- One element of a file more.
use Rattle.std.proofs.Common.{◌≡◌, ℕ, ℤ, pos, ◌+◌, ◌<◌, List, [], ◌∷◌, ◌++◌, length, take, drop, Option, Some, None, sym, ap, subst, ◌∙◌, inl, inr, ⊎_elim, arith, take-append-drop, length-drop, length-take}
use Rattle.std.specs.Prelude.{Contains}
use Rattle.std.specs.declared.cmp.Ordering.TheVariants.{Less}
use Rattle.std.specs.List.Sorted.{IsStrictlySortedBy}
use Rattle.zber.specs.Elements.{Element, Primitive, Constructed, elements}
use Rattle.zapdu.specs.declared.productions.record.Record.{Record}
use Rattle.zapdu.specs.Productions.Records.{whole_record}
use Rattle.zknow.specs.declared.fact.Fact.{Fact}
use Rattle.zknow.specs.declared.fact.Fact.TheVariants.{Count, Failed, Seen, Diag}
use Rattle.zknow.specs.Encodings.{encoding}
use Rattle.zasn.specs.Place.{IsSpellable, Place}
use Rattle.zknow.specs.Facts.{fact_cmp, IsFact}
use Rattle.zknow.specs.Tables.DistinctLaws.{none_in_nil, in_cons, same_sorted, each_in}
use Rattle.zknow.specs.Tables.Join.{IsUnion}
use Rattle.zknow.specs.Saved.SavedFacts.{saved_names, saved_fact, seen_parts}
use Rattle.zknow.specs.Saved.Saved.{saved, IsElement, IsWithinLimits, IsSaved}
use Rattle.zknow.specs.Saved.Loaded.{HasFrontValue, IsSoundUpTo, IsLoadFault}
use Rattle.zknow.specs.declared.saved.front.FrontError.{FrontError}
use Rattle.zknow.specs.declared.saved.front.FrontError.TheVariants.{NoValue, NotCanonical, Memory}
use Rattle.zber.proofs.HeaderLemmas.{take_add}
use Rattle.zknow.proofs.SavedTheory.OneElement.{element_some}
use Rattle.std.proofs.lemmas.List.{append-nil}
use Rattle.zknow.specs.Saved.Fronts.{IsTakenFront, IsFrontFault}
use Rattle.zknow.specs.Saved.Loading.{IsAbove, IsLast, fault_at}
use Rattle.zknow.specs.FactLaws.{fact_total}
use Rattle.zknow.proofs.SavedTheory.FactSpelled.{from_at_least}
use Rattle.zknow.proofs.TableTheory.InSections.{sorted_append}
use Rattle.zknow.proofs.SavedTheory.SavedParts.{each_push, saved_push, in_push, in_front, in_last}

-- what an element says is a fact
fourth : (t s : _) (p : ℤ) (r : Record) (ns : List Element) → seen_parts.writes (record { target = t; set = s; position = p; rec = r }) ns → IsSpellable whole_record r
unfolding seen_parts
fourth t s p r [] h = absurd h
fourth t s p r (a ∷ []) h = absurd h.1
fourth t s p r (a ∷ b ∷ []) h = absurd h.1.1
fourth t s p r (a ∷ b ∷ c ∷ []) h = absurd h.1.1.1
fourth t s p r (a ∷ b ∷ c ∷ d ∷ ns) h = (d, h.1.1.1.0)

pub said_is_fact : (f : Fact) (n : Element) → saved_fact.writes f n → IsFact f
said_is_fact (Count t s n) m h = from_at_least (pos 0) n h.1
said_is_fact (Failed t s) m h = tt
said_is_fact (Seen t s p r) (Primitive name xs) h = absurd h.0
said_is_fact (Seen t s p r) (Constructed name inside) h = (from_at_least (pos 1) p h.1, fourth _ _ p r (elements inside) h.0.1)
said_is_fact (Diag t s p d) m h = from_at_least (pos 0) p h.1

-- in order: what stands before the last is below it
before_last : (front : List Fact) (g : Fact) → IsStrictlySortedBy fact_cmp (front ++ g ∷ []) → (x : Fact) → Contains front x → fact_cmp x g ≡ Less
unfolding IsStrictlySortedBy
before_last [] g sorted x here = absurd (none_in_nil x here)
before_last (y ∷ ys) g sorted x here = ⊎_elim
    (λ same. subst (λ z. fact_cmp z g ≡ Less) same (each_in (λ z. fact_cmp y z ≡ Less) (ys ++ g ∷ []) sorted.0 g (in_last ys g)))
    (λ later. before_last ys g sorted.1 x later)
    (in_cons y ys x here)

module _ (facts : List Fact) (f : Fact) where
  below : (front : List Fact) (g : Fact) → facts ≡ front ++ g ∷ [] → IsStrictlySortedBy fact_cmp facts → fact_cmp g f ≡ Less → (x : Fact) → Contains facts x → fact_cmp x f ≡ Less
  below front g whole sorted less x here = ⊎_elim
      (λ earlier. fact_total.trans x g f (before_last front g (subst (IsStrictlySortedBy fact_cmp) whole sorted) x earlier) less)
      (λ same. subst (λ z. fact_cmp z f ≡ Less) same less)
      (in_push front g x (subst (λ l. Contains l x) whole here))

  alone : (a b : Fact) → fact_cmp a f ≡ Less → Contains (f ∷ []) b → fact_cmp a b ≡ Less
  alone a b less here = ⊎_elim (λ same. subst (λ z. fact_cmp a z ≡ Less) same less) (λ no. absurd (none_in_nil b no)) (in_cons f [] b here)

  -- in order with one more that is above the last
  pub sorted_above : (last : Option Fact) → IsLast facts last → IsAbove last f → IsStrictlySortedBy fact_cmp facts → IsStrictlySortedBy fact_cmp (facts ++ f ∷ [])
  unfolding IsStrictlySortedBy
  sorted_above None whole above sorted = sorted_append fact_cmp facts (f ∷ []) sorted (tt, tt) (λ a b ha hb. absurd (none_in_nil a (subst (λ l. Contains l a) whole ha)))
  sorted_above (Some g) whole above sorted = sorted_append fact_cmp facts (f ∷ []) sorted (tt, tt) (λ a b ha hb. alone a b (below whole.0 g whole.1 sorted above a ha) hb)

  -- and back
  pub above_sorted : (last : Option Fact) → IsLast facts last → IsStrictlySortedBy fact_cmp (facts ++ f ∷ []) → IsAbove last f
  above_sorted None whole sorted = tt
  above_sorted (Some g) whole sorted = before_last facts f sorted g (subst (λ l. Contains l g) (sym whole.1) (in_last whole.0 g))

  -- a knowledge to which the fact was added has it last
  pub added_last : (new : List Fact) → IsUnion (Contains facts) (λ z. z ≡ f) (Contains new) → IsStrictlySortedBy fact_cmp new → IsStrictlySortedBy fact_cmp (facts ++ f ∷ []) → new ≡ facts ++ f ∷ []
  added_last new union of_new of_both = same_sorted fact_cmp fact_total new (facts ++ f ∷ []) of_new of_both (λ z. (
    λ h. ⊎_elim (λ old. in_front facts f z old) (λ same. subst (Contains (facts ++ f ∷ [])) (sym same) (in_last facts f)) ((union z).0 h),
    λ h. (union z).1 (⊎_elim inl (λ same. inr (sym same)) (in_push facts f z h)),
  ))

-- ---- the file

pub saved_first : (file : List ℕ) (names : List (List ℕ)) (size : ℕ) → IsTakenFront saved_names file names size → IsSaved names [] (take size file)
unfolding IsStrictlySortedBy
saved_first file names size taken = record {
  octets = taken.canonical ∙ sym (append-nil (encoding saved_names names));
  ordered = tt;
  names_fit = taken.element;
  facts_fit = tt;
}

pub taken_some : {A : Type 0} (p : Place A) (octets : List ℕ) (x : A) (size : ℕ) → IsTakenFront p octets x size → 0 < size
taken_some p octets x size taken = omega (arith, element_some p x (encoding p x) taken.element, ap length taken.canonical, length-take size octets)

module _ (names : List (List ℕ)) (facts : List Fact) (file : List ℕ) (at : ℕ) (is : IsSaved names facts (take at file)) where
  pub sound_to : at < length file → IsSoundUpTo file names facts (drop at file)
  sound_to more = record { front = take at file; cut = sym (take-append-drop at file); saved = is; more = omega (arith, length-drop at file) }

  module _ (f : Fact) (size : ℕ) (taken : IsTakenFront saved_fact (drop at file) f size) where
    pub saved_next : IsStrictlySortedBy fact_cmp (facts ++ f ∷ []) → IsSaved names (facts ++ f ∷ []) (take (at + size) file)
    saved_next sorted = record {
      octets = take_add file at size ∙ ap (λ l. l ++ take size (drop at file)) is.octets ∙ ap (λ l. saved names facts ++ l) taken.canonical ∙ sym (saved_push names facts f);
      ordered = sorted;
      names_fit = is.names_fit;
      facts_fit = each_push (IsWithinLimits saved_fact) facts f is.facts_fit taken.element;
    }

    pub begins_taken : HasFrontValue saved_fact f (drop at file) (take size (drop at file)) (drop size (drop at file))
    begins_taken = record {
      cut = sym (take-append-drop size (drop at file));
      element = subst (IsElement saved_fact f) (sym taken.canonical) taken.element;
    }

pub later_fault : (file : List ℕ) (names : List (List ℕ)) (facts : List Fact) (rest : List ℕ) (at : ℕ) (e : FrontError) → IsSoundUpTo file names facts rest → at ≡ length facts + 1 → IsFrontFault saved_fact rest e → IsLoadFault file (fault_at at e)
later_fault file names facts rest at NoValue sound place h = inr (record { names = names; facts = facts; rest = rest; sound = sound; place = place; none = h })
later_fault file names facts rest at NotCanonical sound place h =
    inr (record { names = names; facts = facts; rest = rest; sound = sound; place = place; fact = h.value; spelling = h.spelling; after = h.rest; begins = h.begins; odd = inl h.odd })
later_fault file names facts rest at Memory sound place h = h
