-- A source that read an element more.
use Rattle.std.proofs.Common.{◌≡◌, ◌<◌, ◌≤◌, ◌+◌, ◌-◌, ◌*◌, ℕ, true, false, Bool, cond, List, [], ◌∷◌, ◌++◌, length, take, drop, Some, None, refl, sym, ap, subst, ◌∙◌, inl, inr, ⊎_elim, arith, append_assoc, length-append, length-drop, take-append-drop}
use Rattle.std.specs.Prelude.{Contains, Result, Ok, Err, IfOk, OnErr}
use Rattle.std.specs.List.Sorted.{IsStrictlySortedBy}
use Rattle.zknow.specs.declared.fact.Fact.{Fact}
use Rattle.zknow.specs.declared.saved.loading.LoadError.TheVariants as loads
use Rattle.zknow.specs.Encodings.{encoding}
use Rattle.zknow.specs.Facts.{fact_cmp}
use Rattle.zknow.specs.Tables.DistinctLaws.{none_in_nil}
use Rattle.zknow.specs.Saved.SavedFacts.{saved_names, saved_fact}
use Rattle.zknow.specs.Saved.Saved.{saved, IsWithinLimits}
use Rattle.zknow.specs.Saved.Fronts.{IsTakenFront}
use Rattle.zasn_tables.specs.Place.{Place}
use Rattle.zknow.proofs.SavedTheory.OneElement.{element_some}
use Rattle.zknow.proofs.SavedTheory.LoadSteps.{saved_first}
use Rattle.zknow.proofs.SavedTheory.SavedParts.{each_push, saved_push, in_push, in_front}
use Rattle.zknow_merge.specs.declared.head.Head.{Head}
use Rattle.zknow_merge.specs.declared.front.FrontError.{FrontError}
use Rattle.zknow_merge.specs.declared.source.Read.{Read}
use Rattle.zknow_merge.specs.Fronts.{IsTaken}
use Rattle.zknow_merge.specs.Heads.{IsKeyOf, IsLawfulFact}
use Rattle.zknow_merge.proofs.HeadTheory.{said_is_spellable}
use Rattle.zknow_merge.specs.declared.source.Source.{Source}
use Rattle.zknow_merge.specs.Inputs.{Input}
use Rattle.zknow_merge.specs.Sources.{IsLastHead, IsDone, HasReadNames, HasReadFacts, HasReadNothing, IsReadFrom, IsReadStep, AfterRead, IsNextFault, IsNextHead, IsFaultOf, left_of}
use Rattle.zknow_merge.proofs.SourceTheory.{no_names}
use Rattle.zknow_merge.proofs.FaultTheory.{order_fault}

-- ---- the names

pub record AfterNames (s : Source) (names : List (List ℕ)) (size : ℕ) (t : Source) : Type 0 where
  pub octets : t.octets.items ≡ drop size s.octets.items
  pub ended : t.ended ≡ s.ended
  pub named : HasReadNames names t
  pub last : t.last ≡ s.last
  pub waiting : t.waiting ≡ s.waiting
  pub count : t.count ≡ 1

module _ (merged : List Fact) (i : Input) (s t : Source) (names : List (List ℕ)) (size : ℕ) (taken : IsTakenFront saved_names s.octets.items names size) (after : AfterNames s names size t) where
  first_read : (front : List ℕ) → i.octets ≡ front ++ s.octets.items → i.ended ≡ s.ended → HasReadNothing merged front s → IsReadFrom merged i t
  first_read front cut ended n = record {
    front = take size s.octets.items;
    cut = subst (λ (l : List ℕ). i.octets ≡ l ++ s.octets.items) n.start cut
        ∙ sym (take-append-drop size s.octets.items)
        ∙ ap (λ (l : List ℕ). take size s.octets.items ++ l) (sym after.octets);
    ended = ended ∙ sym after.ended;
    read = inr (record {
      names = names;
      facts = [];
      named = after.named;
      saved = saved_first s.octets.items names size taken;
      last = subst (IsLastHead []) (sym (after.last ∙ n.last)) refl;
      count = after.count;
      waits = λ e. let a = after.waiting in let b = n.waits in absurd cc;
      passed = λ f here. absurd (none_in_nil f here);
      behind = λ _ f here. absurd (none_in_nil f (subst (λ (l : List Fact). Contains l f) n.none here));
    });
  }

  pub names_read : s.names ≡ None → IsReadFrom merged i s → IsReadFrom merged i t
  names_read none r = ⊎_elim
      (λ n. first_read r.front r.cut r.ended n)
      (λ f. absurd (no_names f.names s none f.named))
      r.read

-- ---- a fact

pub record AfterHead (s : Source) (h : Head) (t : Source) : Type 0 where
  pub octets : t.octets.items ≡ drop (length h.element.items) s.octets.items
  pub ended : t.ended ≡ s.ended
  pub names : (names : List (List ℕ)) → HasReadNames names s → HasReadNames names t
  pub last : t.last ≡ Some h
  pub waiting : t.waiting ≡ true
  pub count : t.count ≡ s.count + 1

module _ (merged : List Fact) (i : Input) (s : Source) (merged_all : s.waiting ≡ false) (some : 0 < length s.octets.items) (h : Head) (f : Fact) (next : IsNextHead s.octets.items h f) where
  not_done : IsDone s → ⊥
  not_done done = omega (arith, some, ap length done.read)

  more_facts : (front : List ℕ) (t : Source) → AfterHead s h t → (r : HasReadFacts merged front s) → IsStrictlySortedBy fact_cmp (r.facts ++ f ∷ []) → HasReadFacts merged (front ++ take (length h.element.items) s.octets.items) t
  more_facts front t after r sorted =
      let size = length h.element.items in
      record {
        names = r.names;
        facts = r.facts ++ f ∷ [];
        named = after.names r.names r.named;
        saved = record {
          octets = ap (λ (l : List ℕ). l ++ take size s.octets.items) r.saved.octets
              ∙ ap (λ (l : List ℕ). saved r.names r.facts ++ l) next.front.canonical
              ∙ sym (saved_push r.names r.facts f);
          ordered = sorted;
          names_fit = r.saved.names_fit;
          facts_fit = each_push (IsWithinLimits saved_fact) r.facts f r.saved.facts_fit next.front.element;
        };
        last = subst (IsLastHead (r.facts ++ f ∷ [])) (sym after.last) (r.facts, f, refl, next.head);
        count = omega (arith, after.count, r.count, length-append r.facts (f ∷ []));
        waits = λ _ e. omega (arith, ap length e, length-append r.facts (f ∷ []));
        passed = λ g here. ⊎_elim
            (λ old. ⊎_elim inl (λ w. let a = w.0 in absurd cc) (r.passed g old))
            (λ same. inr (after.waiting, (r.facts, ap (λ (z : Fact). r.facts ++ z ∷ []) same)))
            (in_push r.facts f g here);
        behind = λ _ g here. let high = r.behind not_done g here in (high.0, in_front r.facts f high.0 high.1, high.2);
      }

  -- the fact is above all before it
  fact_read : (t : Source) → AfterHead s h t → (front : List ℕ) → i.octets ≡ front ++ s.octets.items → i.ended ≡ s.ended → (r : HasReadFacts merged front s) → IsStrictlySortedBy fact_cmp (r.facts ++ f ∷ []) → IsReadFrom merged i t
  fact_read t after front cut ended r sorted =
      let size = length h.element.items in
      record {
        front = front ++ take size s.octets.items;
        cut = cut ∙ ap (λ (l : List ℕ). front ++ l) (sym (take-append-drop size s.octets.items))
            ∙ sym (append_assoc front (take size s.octets.items) (drop size s.octets.items))
            ∙ ap (λ (l : List ℕ). (front ++ take size s.octets.items) ++ l) (sym after.octets);
        ended = ended ∙ sym after.ended;
        read = inr (more_facts front t after r sorted);
      }

  module _ (named : s.names ≡ None → ⊥) (r : IsReadFrom merged i s) where
    pub head_read : (t : Source) → AfterHead s h t → ((facts : List Fact) → IsLastHead facts s.last → IsStrictlySortedBy fact_cmp facts → IsStrictlySortedBy fact_cmp (facts ++ f ∷ [])) → IsReadFrom merged i t
    head_read t after above = ⊎_elim
        (λ n. absurd (named n.names))
        (λ q. fact_read t after r.front r.cut r.ended q (above q.facts q.last q.saved.ordered))
        r.read

    pub head_refused : ((facts : List Fact) → IsLastHead facts s.last → IsStrictlySortedBy fact_cmp facts → IsStrictlySortedBy fact_cmp (facts ++ f ∷ []) → ⊥) → IsFaultOf i (loads.NotCanonical s.count)
    head_refused never = ⊎_elim
        (λ n. absurd (named n.names))
        (λ q. record {
          file = order_fault merged i s r.front r.cut some q f (length h.element.items) next.front (never q.facts q.last q.saved.ordered);
          some = λ e. absurd cc;
        })
        r.read

-- less is left to do after the fact was read
further_by : (a b w v n : ℕ) → 0 < n → n ≤ b → a ≡ b - n → w ≡ 1 → v ≡ 0 → 2 * a + w + 1 < 2 * b + v + 1
further_by a b w v n some within less mine theirs = omega (arith, some, within, less, mine, theirs)

some_element : (octets : List ℕ) (h : Head) (f : Fact) → IsNextHead octets h f → 0 < length h.element.items
some_element octets h f next = subst (λ (l : List ℕ). 0 < length l) (sym next.head.element)
    (element_some saved_fact f (encoding saved_fact f) next.front.element)

pub further_head : (s : Source) (h : Head) (f : Fact) (after : List ℕ) → s.waiting ≡ false → IsNextHead s.octets.items h f → after ≡ drop (length h.element.items) s.octets.items → 2 * length after + 1 + 1 < left_of s
further_head s h f after merged next is =
    further_by (length after) (length s.octets.items) 1 (cond s.waiting 1 0) (length h.element.items)
    (some_element s.octets.items h f next) next.front.within
    (ap length is ∙ length-drop (length h.element.items) s.octets.items)
    refl
    (ap {B = ℕ} (λ (b : Bool). cond b 1 0) merged)

-- ---- as the code does it

pub next_head : (slice octets : List ℕ) (f : Fact) (element : List ℕ) (h : Head) → slice ≡ octets → IsTaken saved_fact slice f element → IsKeyOf h f → h.element.items ≡ element → IsLawfulFact f → IsNextHead octets h f
next_head slice octets f element h is taken key same lawful = record {
  head = record {
    key = key;
    element = same ∙ taken.is;
    savable = record {
      fits = taken.front.element;
      spellable = said_is_spellable f taken.front.element.node taken.front.element.says;
      lawful = lawful;
    };
  };
  front = subst (λ (l : List ℕ). IsTakenFront saved_fact l f (length h.element.items)) is
      (subst (λ (l : List ℕ). IsTakenFront saved_fact slice f (length l)) (sym same) taken.front);
}

pub taken_within : {A : Type 0} (p : Place A) (slice octets : List ℕ) (x : A) (element : List ℕ) → slice ≡ octets → IsTaken p slice x element → (0 < length element) × (length element ≤ length octets)
taken_within p slice octets x element is taken =
    (omega (arith, element_some p x (encoding p x) taken.front.element, ap length taken.is), omega (arith, taken.front.within, ap length is))

pub refuse_step : {E : Type 0} (s t : Source) (error : FrontError) (result : Result Read E) → IfOk result (λ r. (merged : List Fact) (i : Input) → IsReadFrom merged i s → IsNextFault i s.count error → AfterRead merged i r t) → OnErr result (t ≡ s) → ((merged : List Fact) (i : Input) → IsReadFrom merged i s → IsNextFault i s.count error) → IsReadStep s result t
refuse_step s t error (Ok r) ok err fault = λ merged i read. ok merged i read (fault merged i read)
refuse_step s t error (Err e) ok err fault = λ merged i read. subst (IsReadFrom merged i) (sym err) read

pub after_is : (old new : Source) (r q : Read) → r ≡ q → ((merged : List Fact) (i : Input) → IsReadFrom merged i old → AfterRead merged i r new) → (merged : List Fact) (i : Input) → IsReadFrom merged i old → AfterRead merged i q new
after_is old new r q is h merged i read = subst (λ (x : Read). AfterRead merged i x new) is (h merged i read)
