-- A merge that merged the least of the facts that wait.
use Rattle.std.proofs.Common.{◌≡◌, ◌⊎◌, ◌<◌, ℕ, true, false, Bool, List, [], ◌∷◌, ◌++◌, length, set, get_or, Option, Some, None, refl, sym, ap, subst, ◌∙◌, inl, inr, ⊎_elim, arith, length-append, get_or-set_same, get_or-set_other}
use Rattle.std.specs.Prelude.{Contains, Vec}
use Rattle.std.proofs.lemmas.List.{append-nil, length-set, get_or_default}
use Rattle.std.proofs.lemmas.Bool.{cases_eq}
use Rattle.std.specs.declared.cmp.Ordering.TheVariants.{Less}
use Rattle.std.specs.List.Sorted.{IsStrictlySortedBy}
use Rattle.zknow.specs.declared.fact.Fact.{Fact}
use Rattle.zknow.specs.Encodings.{encoding}
use Rattle.zknow.specs.Facts.{fact_cmp}
use Rattle.zknow.specs.Tables.DistinctLaws.{none_in_nil, in_cons, each_in}
use Rattle.zknow.specs.Saved.SavedFacts.{saved_fact}
use Rattle.zknow.specs.Saved.Saved.{saved}
use Rattle.zknow.proofs.TableTheory.InSections.{sorted_append}
use Rattle.zknow.proofs.SavedTheory.OneElement.{one_element}
use Rattle.zknow.proofs.SavedTheory.SavedParts.{saved_push, in_push, in_front, in_last}
use Rattle.zknow_merge.specs.declared.head.Head.{Head}
use Rattle.zknow_merge.specs.declared.merge.Merge.{Merge}
use Rattle.zknow_merge.specs.declared.refusal.Refusal.{Refusal}
use Rattle.zknow_merge.specs.declared.source.Source.{Source}
use Rattle.zknow_merge.specs.Heads.{IsSavable}
use Rattle.zknow_merge.specs.Inputs.{Input, input_at}
use Rattle.zknow_merge.specs.Sources.{IsElementOption, IsAtMost, IsLastHead, IsLastFact, IsWanting, IsHeadOption, HasHead, HasReadFacts, IsReadFrom, AreSettled, AreHeaded, IsLeastAt, KeepsNames}
use Rattle.zknow_merge.specs.Merges.{AreRead, AreMerged, IsFactAhead, IsLastOf, IsHeadElement, IsNextElement, shown, AreNamed, IsCut, same_names, IsMerge}
use Rattle.zknow_merge.proofs.HeadTheory.{at_most, at_most_trans, below_at_most}
use Rattle.zknow_merge.proofs.ChoiceTheory.{savable_head}
use Rattle.zknow_merge.proofs.InputTheory.{same_grown}
use Rattle.zknow_merge.proofs.StepTheory.{few_sources, named_kept, cut_kept}
use Rattle.zknow_merge.proofs.SourceTheory.{IsOneMore, not_done_waiting, other_facts, own_facts}

-- ---- the last of facts

-- in order: what stands before the last is below it
before_last : (front : List Fact) (g : Fact) → IsStrictlySortedBy fact_cmp (front ++ g ∷ []) → (x : Fact) → Contains front x → fact_cmp x g ≡ Less
unfolding IsStrictlySortedBy
before_last [] g sorted x here = absurd (none_in_nil x here)
before_last (y ∷ ys) g sorted x here = ⊎_elim
    (λ same. subst (λ (z : Fact). fact_cmp z g ≡ Less) same (each_in (λ (z : Fact). fact_cmp y z ≡ Less) (ys ++ g ∷ []) sorted.0 g (in_last ys g)))
    (λ later. before_last ys g sorted.1 x later)
    (in_cons y ys x here)

-- all are at most the last
pub at_most_last : (facts : List Fact) (f g : Fact) → IsStrictlySortedBy fact_cmp facts → IsLastFact facts f → Contains facts g → IsAtMost g f
at_most_last facts f g sorted last here = ⊎_elim
    (λ early. inl (before_last last.0 f (subst (IsStrictlySortedBy fact_cmp) last.1 sorted) g early))
    (λ same. inr (sym same))
    (in_push last.0 f g (subst (λ (l : List Fact). Contains l g) last.1 here))

pub last_in : (facts : List Fact) (f : Fact) → IsLastFact facts f → Contains facts f
last_in facts f last = subst (λ (l : List Fact). Contains l f) (sym last.1) (in_last last.0 f)

pub by_last : (facts : List Fact) → (facts ≡ []) ⊎ ((f : Fact) × IsLastFact facts f)
by_last [] = inl refl
by_last (x ∷ xs) = inr (⊎_elim
    (λ none. (x, ([], ap (λ (l : List Fact). x ∷ l) none)))
    (λ some. (some.0, (x ∷ some.1.0, ap (λ (l : List Fact). x ∷ l) some.1.1)))
    (by_last xs))

-- ---- the fact that waits

-- the last fact that a source has read, with its head
pub record IsWaitingFact (merged : List Fact) (front : List ℕ) (s : Source) (f : Fact) : Type 0 where
  pub read : HasReadFacts merged front s
  pub last : IsLastFact read.facts f
  pub head : HasHead s f

waiting_last : (merged : List Fact) (front : List ℕ) (s : Source) (r : HasReadFacts merged front s) → s.waiting ≡ true → (o : Option Head) → s.last ≡ o → IsLastHead r.facts o → (f : Fact) × IsLastFact r.facts f × HasHead s f
waiting_last merged front s r waits None is last = absurd (r.waits waits last)
waiting_last merged front s r waits (Some h) is last = (last.1, (last.0, last.2), (waits, rw is last.3))

waiting_by : (merged : List Fact) (front : List ℕ) (s : Source) (r : HasReadFacts merged front s) → s.waiting ≡ true → (f : Fact) × IsWaitingFact merged front s f
waiting_by merged front s r waits =
    let w = waiting_last merged front s r waits s.last refl r.last in (w.0, record { read = r; last = w.1; head = w.2 })

pub waiting_fact : (merged : List Fact) (i : Input) (s : Source) (r : IsReadFrom merged i s) → s.waiting ≡ true → (f : Fact) × IsWaitingFact merged r.front s f
waiting_fact merged i s r waits = ⊎_elim
    (λ n. let a = n.waits in absurd cc)
    (λ q. waiting_by merged r.front s q waits)
    r.read

pub all_headed : (merged : List Fact) (inputs : List Input) (sources : List Source) → AreRead merged inputs sources → AreHeaded sources
all_headed merged inputs sources read k d lt waits =
    let w = waiting_fact merged (input_at inputs k) (get_or sources k d) (read k d lt) waits in (w.0, w.1.head)

-- ---- a source whose fact is not merged

module _ (merged more : List Fact) (f : Fact) (one : IsOneMore merged f more) (savable : IsSavable f) (i : Input) where
  other_by : (s : Source) → (IsWanting s → ⊥) → ((g : Fact) → HasHead s g → fact_cmp g f ≡ Less → ⊥) → (front : List ℕ) → (b : Bool) → s.waiting ≡ b → HasReadFacts merged front s → HasReadFacts more front s
  other_by s settled high front true waits r = other_facts merged more f one front s
      (λ _ q. let w = waiting_last merged front s q waits s.last refl q.last in
      (w.0, last_in q.facts w.0 w.1, at_most f w.0 savable (savable_head s.last w.0 w.2.1) (high w.0 w.2)))
      r
  other_by s settled high front false waits r = other_facts merged more f one front s
      (λ never q. absurd (settled (record { merged = waits; more = never })))
      r

  pub other_read : (s : Source) → (IsWanting s → ⊥) → ((g : Fact) → HasHead s g → fact_cmp g f ≡ Less → ⊥) → IsReadFrom merged i s → IsReadFrom more i s
  other_read s settled high r = record {
    front = r.front;
    cut = r.cut;
    ended = r.ended;
    read = ⊎_elim
        (λ n. absurd (settled (record { merged = n.waits; more = λ done. done.named n.names })))
        (λ q. inr (other_by s settled high r.front s.waiting refl q))
        r.read;
  }

  pub own_read : (s : Source) (r : IsReadFrom merged i s) (w : IsWaitingFact merged r.front s f) → IsReadFrom more i (record s { waiting = false })
  own_read s r w = record {
    front = r.front;
    cut = r.cut;
    ended = r.ended;
    read = inr (own_facts merged more f one r.front s w.head.0 w.read w.last (last_in w.read.facts f w.last));
  }

-- ---- the merged facts

module _ (inputs : List Input) (merged : List Fact) (of_merged : AreMerged inputs merged) (s : Source) (front : List ℕ) (f : Fact) (w : IsWaitingFact merged front s f) where
  -- what was merged is at most the fact
  pub merged_low : (g : Fact) → Contains merged g → IsAtMost g f
  merged_low g here =
      let high = w.read.behind (not_done_waiting s w.head.0) g here in
      at_most_trans g high.0 f high.2 (at_most_last w.read.facts f high.0 w.read.saved.ordered w.last high.1)

  module _ (m : Merge) (last : IsLastOf merged m) where
    one_option : {A : Type 0} (o : Option (Vec ℕ A)) (xs ys : List ℕ) → IsElementOption o xs → IsElementOption o ys → xs ≡ ys
    one_option None xs ys a b = absurd a
    one_option (Some v) xs ys a b = sym a ∙ b

    -- the element kept is that of the fact: it was merged
    pub was_merged : IsSavable f → IsElementOption m.last (encoding saved_fact f) → Contains merged f
    was_merged savable same = ⊎_elim
        (λ none. absurd (let gone = last.none none in rw gone at same))
        (λ some.
        let l = some.0 in
        let octets = one_option m.last (encoding saved_fact l) (encoding saved_fact f) (last.some some.1.0 l some.1.1) same in
        let is : l ≡ f = (one_element saved_fact l f (encoding saved_fact l) (encoding saved_fact f) [] []
        (of_merged.savable l (last_in merged l some.1)).fits savable.fits (ap (λ (x : List ℕ). x ++ []) octets)).0 in
        subst (Contains merged) is (last_in merged l some.1))
        (by_last merged)

    -- it is not: all that was merged is below the fact
    pub all_below : (IsElementOption m.last (encoding saved_fact f) → ⊥) → (g : Fact) → Contains merged g → fact_cmp g f ≡ Less
    all_below other g here = ⊎_elim
        (λ less. less)
        (λ same. absurd (fresh_fact (subst (Contains merged) same here)))
        (merged_low g here)
      where
        fresh_fact : Contains merged f → ⊥
        fresh_fact there = ⊎_elim
            (λ none. none_in_nil f (subst (λ (l : List Fact). Contains l f) none there))
            (λ some. ⊎_elim
            (λ less. below_at_most f some.0 less (merged_low some.0 (last_in merged some.0 some.1)))
            (λ is. other (last.some some.1.0 f (some.1.1 ∙ ap (λ (z : Fact). some.1.0 ++ z ∷ []) (sym is))))
            (at_most_last merged some.0 f of_merged.ordered some.1 there))
            (by_last merged)

alone_below : (a b f : Fact) → fact_cmp a f ≡ Less → Contains (f ∷ []) b → fact_cmp a b ≡ Less
alone_below a b f less here = ⊎_elim
    (λ same. subst (λ (z : Fact). fact_cmp a z ≡ Less) same less)
    (λ never. absurd (none_in_nil b never))
    (in_cons f [] b here)

pub same_one : (merged : List Fact) (f : Fact) → Contains merged f → IsOneMore merged f merged
same_one merged f here = record { keeps = λ g there. there; only = λ g there. inl there; has = here }

pub pushed_one : (merged : List Fact) (f : Fact) → IsOneMore merged f (merged ++ f ∷ [])
pushed_one merged f = record {
  keeps = λ g there. in_front merged f g there;
  only = λ g there. ⊎_elim inl (λ same. inr (sym same)) (in_push merged f g there);
  has = in_last merged f;
}

pub pushed_merged : (inputs : List Input) (merged : List Fact) (f : Fact) → AreMerged inputs merged → IsSavable f → IsFactAhead inputs f → ((g : Fact) → Contains merged g → fact_cmp g f ≡ Less) → AreMerged inputs (merged ++ f ∷ [])
unfolding IsStrictlySortedBy
pushed_merged inputs merged f of_merged savable ahead below = record {
  ordered = sorted_append fact_cmp merged (f ∷ []) of_merged.ordered (tt, tt) (λ a b ha hb. alone_below a b f (below a ha) hb);
  savable = λ g here. ⊎_elim (of_merged.savable g) (λ same. subst IsSavable same savable) (in_push merged f g here);
  ahead = λ g here. ⊎_elim (of_merged.ahead g) (λ same. subst (IsFactAhead inputs) same ahead) (in_push merged f g here);
}

-- ---- the merge

-- the second merge is the first but for the sources and the last element
pub record IsPassed (m n : Merge) (after : List Source) : Type 0 where
  pub sources : n.sources.items ≡ after
  pub refusal : n.refusal ≡ m.refusal
  pub named : n.named ≡ true

module _ (inputs : List Input) (written : List ℕ) (m : Merge) (was : IsMerge inputs written m) (settled : AreSettled m.sources.items) (named : m.named ≡ true) (k : ℕ) (d : Source) (least : IsLeastAt m.sources.items (length m.sources.items) k) where
  pub own_was : IsReadFrom was.merged (input_at inputs k) (get_or m.sources.items k d)
  own_was = was.read k d least.among

  pub found : (f : Fact) × IsWaitingFact was.merged own_was.front (get_or m.sources.items k d) f
  found = waiting_fact was.merged (input_at inputs k) (get_or m.sources.items k d) own_was (least.waits d)

  found_savable : IsSavable found.0
  found_savable = savable_head (get_or m.sources.items k d).last found.0 found.1.head.1

  found_ahead : IsFactAhead inputs found.0
  found_ahead = record {
    number = k;
    among = omega (arith, least.among, few_sources m.refusal inputs was.names m.sources.items was.cut);
    front = own_was.front;
    rest = (get_or m.sources.items k d).octets.items;
    cut = own_was.cut;
    names = found.1.read.names;
    facts = found.1.read.facts;
    saved = found.1.read.saved;
    has = last_in found.1.read.facts found.0 found.1.last;
  }

  pub found_merged : IsElementOption m.last (encoding saved_fact found.0) → Contains was.merged found.0
  found_merged = was_merged inputs was.merged was.facts (get_or m.sources.items k d) own_was.front found.0 found.1 m was.last found_savable

  pub found_above : (IsElementOption m.last (encoding saved_fact found.0) → ⊥) → AreMerged inputs (was.merged ++ found.0 ∷ [])
  found_above other = pushed_merged inputs was.merged found.0 was.facts found_savable found_ahead
      (all_below inputs was.merged was.facts (get_or m.sources.items k d) own_was.front found.0 found.1 m was.last other)

  module _ (more : List Fact) (one : IsOneMore was.merged found.0 more) (sources : List Source) (is : sources ≡ set m.sources.items k (record (get_or m.sources.items k d) { waiting = false })) where
    there : (e : Source) → get_or sources k e ≡ record (get_or m.sources.items k d) { waiting = false }
    there e = ap (λ (l : List Source). get_or l k e) is ∙ get_or-set_same m.sources.items k (record (get_or m.sources.items k d) { waiting = false }) e least.among

    elsewhere : (j : ℕ) (e : Source) → (j ≡ k → ⊥) → get_or sources j e ≡ get_or m.sources.items j e
    elsewhere j e other = ap (λ (l : List Source). get_or l j e) is ∙ get_or-set_other m.sources.items k j (record (get_or m.sources.items k d) { waiting = false }) e other

    long : length sources ≡ length m.sources.items
    long = ap length is ∙ length-set m.sources.items k (record (get_or m.sources.items k d) { waiting = false })

    pub pass_read : AreRead more inputs sources
    pass_read j e below = ⊎_elim
        (λ same. subst (λ (q : ℕ). IsReadFrom more (input_at inputs q) (get_or sources q e)) (sym same)
        (subst (IsReadFrom more (input_at inputs k)) (sym (there e))
        (own_read was.merged more found.0 one found_savable (input_at inputs k) (get_or m.sources.items k d) own_was found.1)))
        (λ other.
        let within : j < length m.sources.items = omega (arith, below, long) in
        subst (IsReadFrom more (input_at inputs j)) (sym (elsewhere j e other))
        (other_read was.merged more found.0 one found_savable (input_at inputs j) (get_or m.sources.items j e) (settled j e within)
        (λ g hg less. least.least j d e within within found.0 g found.1.head hg less)
        (was.read j e within)))
        (cases_eq j k)

    keeps : (e : Source) → KeepsNames (get_or m.sources.items k e) (record (get_or m.sources.items k d) { waiting = false })
    keeps e = λ _. ap (λ (s : Source). s.names) (get_or_default m.sources.items k d e least.among)

    module _ (octets : List ℕ) (of_more : AreMerged inputs more) (n : Merge) (of_n : IsPassed m n sources) (last : IsLastOf more n) (handed : m.refusal ≡ None → written ++ octets ≡ saved was.names more) where
      pub passed : IsMerge inputs (written ++ octets) n
      passed =
          let same : (names : List (List ℕ)) → AreNamed names m.sources.items (same_names m.refusal (length m.sources.items)) → AreNamed names sources (same_names m.refusal (length sources)) =
          λ names q. subst (λ (z : ℕ). AreNamed names sources (same_names m.refusal z)) (sym long)
          (named_kept m.sources.items sources k least.among (record (get_or m.sources.items k d) { waiting = false }) d is keeps names (same_names m.refusal (length m.sources.items)) q) in
          record {
            some = was.some;
            names = was.names;
            merged = more;
            read = subst (AreRead more inputs) (sym of_n.sources) pass_read;
            facts = of_more;
            last = last;
            cut = subst (λ (l : List Source). IsCut n.refusal inputs was.names l) (sym of_n.sources)
                (subst (λ (r : Option Refusal). IsCut r inputs was.names sources) (sym of_n.refusal)
                (cut_kept m.sources.items sources k least.among (record (get_or m.sources.items k d) { waiting = false }) d is keeps m.refusal inputs inputs was.names refl (λ j. same_grown (input_at inputs j)) was.cut));
            named = λ _. subst (λ (l : List Source). AreNamed was.names l (same_names n.refusal (length l))) (sym of_n.sources)
                (subst (λ (r : Option Refusal). AreNamed was.names sources (same_names r (length sources))) (sym of_n.refusal) (same was.names (was.named named)));
            unnamed = λ unnamed. let a = of_n.named in absurd cc;
            handed = λ none _. handed (sym of_n.refusal ∙ none);
          }

-- ---- as the code does it

head_element : (o : Option Head) (f : Fact) → IsHeadOption o f → IsHeadElement o (encoding saved_fact f)
head_element None f h = h
head_element (Some k) f h = h.element

head_octets : (o : Option Head) (f : Fact) (xs : List ℕ) → IsHeadOption o f → IsHeadElement o xs → xs ≡ encoding saved_fact f
head_octets None f xs h e = absurd h
head_octets (Some k) f xs h e = sym e ∙ h.element

push_last : (xs ys : List Fact) (x y : Fact) → xs ++ x ∷ [] ≡ ys ++ y ∷ [] → x ≡ y
push_last [] [] x y e = cc
push_last [] (z ∷ zs) x y e = absurd (omega (arith, ap length e, length-append zs (y ∷ [])))
push_last (z ∷ zs) [] x y e = absurd (omega (arith, ap length e, length-append zs (x ∷ [])))
push_last (z ∷ zs) (w ∷ ws) x y e = push_last zs ws x y (cc)

module _ (inputs : List Input) (written : List ℕ) (m : Merge) (was : IsMerge inputs written m) (settled : AreSettled m.sources.items) (named : m.named ≡ true) (k : ℕ) (least : IsLeastAt m.sources.items (length m.sources.items) k) (old : Source) (value : old ≡ get_or m.sources.items k old) (n : Merge) (items : n.sources.items ≡ set m.sources.items k (record old { waiting = false })) (refusal : n.refusal ≡ m.refusal) (still : n.named ≡ true) where
  items_at : n.sources.items ≡ set m.sources.items k (record (get_or m.sources.items k old) { waiting = false })
  items_at = items ∙ ap (λ (s : Source). set m.sources.items k (record s { waiting = false })) value

  of_n : IsPassed m n n.sources.items
  of_n = record { sources = refl; refusal = refusal; named = still }

  the_fact : Fact
  the_fact = (found inputs written m was settled named k old least).0

  head_here : IsHeadOption (get_or m.sources.items k old).last (found inputs written m was settled named k old least).0
  head_here = (found inputs written m was settled named k old least).1.head.1

  -- the element is the one kept
  pub pass_skipped : ((octets : List ℕ) → IsHeadElement old.last octets → IsElementOption m.last octets) → n.last ≡ m.last → IsMerge inputs (written ++ []) n
  pass_skipped next last =
      let f = (found inputs written m was settled named k old least).0 in
      let at = subst (λ (s : Source). (octets : List ℕ) → IsHeadElement s.last octets → IsElementOption m.last octets) value next in
      let here = found_merged inputs written m was settled named k old least (at (encoding saved_fact f) (head_element (get_or m.sources.items k old).last f head_here)) in
      passed inputs written m was settled named k old least was.merged (same_one was.merged f here) n.sources.items items_at [] was.facts n of_n
      (record { none = λ e. last ∙ was.last.none e; some = λ front g e. rw last (was.last.some front g e) })
      (λ whole. append-nil written ∙ was.handed whole named)

  -- the element is a new one
  pub pass_written : {A : Type 0} (e : Vec ℕ A) → IsNextElement m.last old (Some e) → IsElementOption n.last e.items → IsMerge inputs (written ++ shown m.refusal e.items) n
  pass_written e next last =
      let f = (found inputs written m was settled named k old least).0 in
      let at = subst (λ (s : Source). IsNextElement m.last s (Some e)) value next in
      let octets : e.items ≡ encoding saved_fact f = head_octets (get_or m.sources.items k old).last f e.items head_here at.0 in
      let above = found_above inputs written m was settled named k old least (λ same. at.1 (subst (λ (l : List ℕ). IsElementOption m.last l) (sym octets) same)) in
      passed inputs written m was settled named k old least (was.merged ++ f ∷ []) (pushed_one was.merged f) n.sources.items items_at (shown m.refusal e.items) above n of_n
      (record {
        none = λ none. absurd (omega (arith, ap length none, length-append was.merged (f ∷ [])));
        some = λ front g is. subst (λ (l : List ℕ). IsElementOption n.last l) (octets ∙ ap (encoding saved_fact) (push_last was.merged front f g is)) last;
      })
      (λ whole. ap (λ (r : Option Refusal). written ++ shown r e.items) whole
      ∙ ap (λ (l : List ℕ). l ++ e.items) (was.handed whole named)
      ∙ ap (λ (l : List ℕ). saved was.names was.merged ++ l) octets
      ∙ sym (saved_push was.names was.merged f))
