-- A merge of which one source changed, or was cut off with those behind it.
use Rattle.std.proofs.Common.{◌≡◌, ◌<◌, ◌≤◌, ◌-◌, ℕ, List, length, set, take, get_or, Option, Some, None, refl, sym, ap, subst, ◌∙◌, ⊎_elim, arith, get_or-set_same, get_or-set_other, length-take}
use Rattle.std.proofs.lemmas.List.{length-set, get_or-take, get_or_default, set-get_or}
use Rattle.std.proofs.lemmas.Bool.{cases_eq}
use Rattle.zknow.specs.declared.fact.Fact.{Fact}
use Rattle.zknow.specs.declared.saved.loading.LoadError.{LoadError}
use Rattle.zknow_merge.specs.declared.merge.Merge.{Merge}
use Rattle.zknow_merge.specs.declared.refusal.Refusal.{Refusal}
use Rattle.zknow_merge.specs.declared.refusal.Refusal.TheVariants as refusals
use Rattle.zknow_merge.specs.declared.source.Source.{Source}
use Rattle.zknow_merge.specs.Inputs.{Input, no_input, input_at, changed_at}
use Rattle.zknow_merge.specs.Sources.{IsReadFrom, HasReadNames, HasReadOthers, KeepsNames, IsFaultOf}
use Rattle.zknow_merge.specs.Merges.{AreRead, AreNamed, IsCut, same_names, IsMerge}
use Rattle.zknow_merge.proofs.SourceTheory.{no_names}
use Rattle.zknow_merge.proofs.InputTheory.{IsGrown, same_grown, fault_grown, changed_there, changed_else, changed_length, grown_at, merged_grown}

no_others : (names : List (List ℕ)) (s : Source) → s.names ≡ None → HasReadOthers names s → ⊥
no_others names s is h = rw is at h

pub names_kept : (names : List (List ℕ)) (s t : Source) → KeepsNames s t → HasReadNames names s → HasReadNames names t
names_kept names s t keeps h = rw (keeps (λ none. no_names names s none h)) h

pub others_kept : (names : List (List ℕ)) (s t : Source) → KeepsNames s t → HasReadOthers names s → HasReadOthers names t
others_kept names s t keeps h = rw (keeps (λ none. no_others names s none h)) h

pub few_sources : (r : Option Refusal) (inputs : List Input) (names : List (List ℕ)) (sources : List Source) → IsCut r inputs names sources → length sources ≤ length inputs
few_sources None inputs names sources cut = omega (arith, cut)
few_sources (Some (refusals.Fault e)) inputs names sources cut = omega (arith, cut.few)
few_sources (Some refusals.NamesDiffer) inputs names sources cut = cut.few

below_same : (r : Option Refusal) (n k j : ℕ) → k < n → j < k → j < same_names r n
below_same None n k j lt below = omega (arith, lt, below)
below_same (Some (refusals.Fault e)) n k j lt below = omega (arith, lt, below)
below_same (Some refusals.NamesDiffer) n k j lt below = omega (arith, lt, below)

-- ---- one source changed

module _ (sources after : List Source) (k : ℕ) (lt : k < length sources) (t d : Source) (is : after ≡ set sources k t) where
  at_there : (e : Source) → get_or after k e ≡ t
  at_there e = ap (λ (l : List Source). get_or l k e) is ∙ get_or-set_same sources k t e lt

  at_else : (j : ℕ) (e : Source) → (j ≡ k → ⊥) → get_or after j e ≡ get_or sources j e
  at_else j e other = ap (λ (l : List Source). get_or l j e) is ∙ get_or-set_other sources k j t e other

  same_length : length after ≡ length sources
  same_length = ap length is ∙ length-set sources k t

  module _ (keeps : (e : Source) → KeepsNames (get_or sources k e) t) where
    keeps_at : (j : ℕ) (e : Source) → KeepsNames (get_or sources j e) (get_or after j e)
    keeps_at j e = ⊎_elim
        (λ same. subst (λ (n : ℕ). KeepsNames (get_or sources n e) (get_or after n e)) (sym same)
        (subst (KeepsNames (get_or sources k e)) (sym (at_there e)) (keeps e)))
        (λ other. subst (KeepsNames (get_or sources j e)) (sym (at_else j e other)) (λ _. refl))
        (cases_eq j k)

    pub named_kept : (names : List (List ℕ)) (count : ℕ) → AreNamed names sources count → AreNamed names after count
    named_kept names count named j e below among =
        names_kept names (get_or sources j e) (get_or after j e) (keeps_at j e) (named j e below (omega (arith, among, same_length)))

    pub cut_kept : (r : Option Refusal) (inputs more : List Input) (names : List (List ℕ)) → length more ≡ length inputs → ((j : ℕ) → IsGrown (input_at inputs j) (input_at more j)) → IsCut r inputs names sources → IsCut r more names after
    cut_kept None inputs more names long grown cut = same_length ∙ cut ∙ sym long
    cut_kept (Some (refusals.Fault e)) inputs more names long grown cut =
        let still = fault_grown (input_at inputs (length sources)) (input_at more (length sources)) e (grown (length sources)) cut.is in
        record {
          few = omega (arith, cut.few, same_length, long);
          is = subst (λ (n : ℕ). IsFaultOf (input_at more n) e) (sym same_length) still;
        }
    cut_kept (Some refusals.NamesDiffer) inputs more names long grown cut = record {
      few = omega (arith, cut.few, same_length, long);
      some = omega (arith, cut.some, same_length);
      others = λ e. subst (λ (n : ℕ). HasReadOthers names (get_or after (n - 1) e)) (sym same_length)
          (others_kept names (get_or sources (length sources - 1) e) (get_or after (length sources - 1) e) (keeps_at (length sources - 1) e) (cut.others e));
    }

module _ (inputs : List Input) (written : List ℕ) (m n : Merge) (was : IsMerge inputs written m) (k : ℕ) (lt : k < length m.sources.items) (change : Input → Input) (grown : IsGrown (input_at inputs k) (change (input_at inputs k))) where
  among : k < length inputs
  among = omega (arith, lt, few_sources m.refusal inputs was.names m.sources.items was.cut)

  module _ (t : Source) (is : n ≡ record m { sources = n.sources }) (items : n.sources.items ≡ set m.sources.items k t) (keeps : (e : Source) → KeepsNames (get_or m.sources.items k e) t) (new : IsReadFrom was.merged (change (input_at inputs k)) t) where
    inputs_new : List Input
    inputs_new = changed_at k change inputs

    read_new : AreRead was.merged (changed_at k change inputs) n.sources.items
    read_new j d below = ⊎_elim
        (λ same. subst (λ (q : ℕ). IsReadFrom was.merged (input_at (changed_at k change inputs) q) (get_or n.sources.items q d)) (sym same)
        (subst (λ (s : Source). IsReadFrom was.merged (input_at (changed_at k change inputs) k) s) (sym (at_there m.sources.items n.sources.items k lt t d items d))
        (subst (λ (i : Input). IsReadFrom was.merged i t) (sym (changed_there inputs k among change)) new)))
        (λ other. subst (λ (s : Source). IsReadFrom was.merged (input_at (changed_at k change inputs) j) s) (sym (at_else m.sources.items n.sources.items k lt t d items j d other))
        (subst (λ (i : Input). IsReadFrom was.merged i (get_or m.sources.items j d)) (sym (changed_else inputs k among change j other))
        (was.read j d (omega (arith, below, same_length m.sources.items n.sources.items k lt t d items)))))
        (cases_eq j k)

    pub source_changed : IsMerge (changed_at k change inputs) written n
    source_changed =
        let long = same_length m.sources.items n.sources.items k lt t t items in
        let now : IsMerge (changed_at k change inputs) written (record m { sources = n.sources }) = record {
          some = omega (arith, was.some, changed_length inputs k among change);
          names = was.names;
          merged = was.merged;
          read = read_new;
          facts = merged_grown inputs k among change grown was.merged was.facts;
          last = record { none = was.last.none; some = was.last.some };
          cut = cut_kept m.sources.items n.sources.items k lt t t items keeps m.refusal inputs (changed_at k change inputs) was.names
              (changed_length inputs k among change) (grown_at inputs k among change grown) was.cut;
          named = λ named. subst (λ (q : ℕ). AreNamed was.names n.sources.items (same_names m.refusal q)) (sym long)
              (named_kept m.sources.items n.sources.items k lt t t items keeps was.names (same_names m.refusal (length m.sources.items)) (was.named named));
          unnamed = λ unnamed. let u = was.unnamed unnamed in record { none = u.none; nothing = u.nothing; alike = u.alike };
          handed = was.handed;
        } in
        subst (IsMerge (changed_at k change inputs) written) (sym is) now

-- ---- an input without a source grew

module _ (inputs : List Input) (written : List ℕ) (m : Merge) (was : IsMerge inputs written m) (k : ℕ) (lt : k < length inputs) (late : length m.sources.items ≤ k) (change : Input → Input) (grown : IsGrown (input_at inputs k) (change (input_at inputs k))) where
  read_early : AreRead was.merged (changed_at k change inputs) m.sources.items
  read_early j d below =
      let other : j ≡ k → ⊥ = λ same. omega (arith, same, below, late) in
      subst (λ (i : Input). IsReadFrom was.merged i (get_or m.sources.items j d)) (sym (changed_else inputs k lt change j other)) (was.read j d below)

  cut_early : (r : Option Refusal) → IsCut r inputs was.names m.sources.items → IsCut r (changed_at k change inputs) was.names m.sources.items
  cut_early None cut = cut ∙ sym (changed_length inputs k lt change)
  cut_early (Some (refusals.Fault e)) cut = record {
    few = omega (arith, cut.few, changed_length inputs k lt change);
    is = fault_grown (input_at inputs (length m.sources.items)) (input_at (changed_at k change inputs) (length m.sources.items)) e
        (grown_at inputs k lt change grown (length m.sources.items)) cut.is;
  }
  cut_early (Some refusals.NamesDiffer) cut = record {
    few = omega (arith, cut.few, changed_length inputs k lt change);
    some = cut.some;
    others = cut.others;
  }

  pub late_changed : IsMerge (changed_at k change inputs) written m
  late_changed = record {
    some = omega (arith, was.some, changed_length inputs k lt change);
    names = was.names;
    merged = was.merged;
    read = read_early;
    facts = merged_grown inputs k lt change grown was.merged was.facts;
    last = was.last;
    cut = cut_early m.refusal was.cut;
    named = was.named;
    unnamed = was.unnamed;
    handed = was.handed;
  }

-- ---- a source found a fault

module _ (inputs : List Input) (written : List ℕ) (m n : Merge) (was : IsMerge inputs written m) (k : ℕ) (lt : k < length m.sources.items) (e : LoadError) (fault : IsFaultOf (input_at inputs k) e) (is : n ≡ record m { sources = n.sources; refusal = Some (refusals.Fault e) }) (items : n.sources.items ≡ take k m.sources.items) where
  short : length n.sources.items ≡ k
  short = omega (arith, ap length items, length-take k m.sources.items, lt)

  at_front : (j : ℕ) (d : Source) → j < k → get_or n.sources.items j d ≡ get_or m.sources.items j d
  at_front j d below = ap (λ (l : List Source). get_or l j d) items ∙ get_or-take k m.sources.items j d below

  pub cut_off : IsMerge inputs written n
  cut_off =
      let now : IsMerge inputs written (record m { sources = n.sources; refusal = Some (refusals.Fault e) }) = record {
        some = was.some;
        names = was.names;
        merged = was.merged;
        read = λ j d below.
            let front : j < k = omega (arith, below, short) in
            subst (IsReadFrom was.merged (input_at inputs j)) (sym (at_front j d front)) (was.read j d (omega (arith, front, lt)));
        facts = was.facts;
        last = record { none = was.last.none; some = was.last.some };
        cut = record {
          few = omega (arith, short, lt, few_sources m.refusal inputs was.names m.sources.items was.cut);
          is = subst (λ (q : ℕ). IsFaultOf (input_at inputs q) e) (sym short) fault;
        };
        named = λ named j d below here.
            let front : j < k = omega (arith, below, short) in
            subst (HasReadNames was.names) (sym (at_front j d front))
            (was.named named j d (below_same m.refusal (length m.sources.items) k j lt front) (omega (arith, front, lt)));
        unnamed = λ unnamed. let u = was.unnamed unnamed in record { none = u.none; nothing = u.nothing; alike = λ same. absurd cc };
        handed = λ none. absurd cc;
      } in
      subst (IsMerge inputs written) (sym is) now

-- ---- one source, as the code changes it

module _ (sources : List Source) (k : ℕ) (lt : k < length sources) (old t : Source) (value : old ≡ get_or sources k old) (keeps : KeepsNames old t) where
  pub old_at : (e : Source) → get_or sources k e ≡ old
  old_at e = get_or_default sources k e old lt ∙ sym value

  pub keeps_names : (e : Source) → KeepsNames (get_or sources k e) t
  keeps_names e = subst (λ (s : Source). KeepsNames s t) (sym (old_at e)) keeps

-- the source takes what has come of its input
pub step_source : (inputs : List Input) (written : List ℕ) (m n : Merge) → IsMerge inputs written m → (k : ℕ) → k < length m.sources.items → (change : Input → Input) → IsGrown (input_at inputs k) (change (input_at inputs k)) → (old t : Source) → old ≡ get_or m.sources.items k old → n ≡ record m { sources = n.sources } → n.sources.items ≡ set m.sources.items k t → KeepsNames old t → ((merged : List Fact) (i : Input) → IsReadFrom merged i old → IsReadFrom merged (change i) t) → IsMerge (changed_at k change inputs) written n
step_source inputs written m n was k lt change grown old t value is items keeps reads =
    source_changed inputs written m n was k lt change grown t is items (keeps_names m.sources.items k lt old t value keeps)
    (reads was.merged (input_at inputs k) (subst (IsReadFrom was.merged (input_at inputs k)) (sym value) (was.read k old lt)))

-- the source read an element, or nothing
pub step_same : (inputs : List Input) (written : List ℕ) (m n : Merge) → IsMerge inputs written m → (k : ℕ) → k < length m.sources.items → (old t : Source) → old ≡ get_or m.sources.items k old → n ≡ record m { sources = n.sources } → n.sources.items ≡ set m.sources.items k t → KeepsNames old t → ((merged : List Fact) (i : Input) → IsReadFrom merged i old → IsReadFrom merged i t) → IsMerge inputs written n
step_same inputs written m n was k lt old t value is items keeps reads =
    subst (λ (l : List Input). IsMerge l written n) (set-get_or inputs k no_input)
    (step_source inputs written m n was k lt (λ i. i) (same_grown (input_at inputs k)) old t value is items keeps reads)

-- the input of a source, as the source read it
pub old_read : (inputs : List Input) (written : List ℕ) (m : Merge) (was : IsMerge inputs written m) (k : ℕ) → k < length m.sources.items → (old : Source) → old ≡ get_or m.sources.items k old → IsReadFrom was.merged (input_at inputs k) old
old_read inputs written m was k lt old value = subst (IsReadFrom was.merged (input_at inputs k)) (sym value) (was.read k old lt)

pub among_inputs : (inputs : List Input) (written : List ℕ) (m : Merge) → IsMerge inputs written m → (k : ℕ) → k < length m.sources.items → k < length inputs
among_inputs inputs written m was k lt = omega (arith, lt, few_sources m.refusal inputs was.names m.sources.items was.cut)

pub same_reads : (sources : List Source) (k : ℕ) → k < length sources → (s t : Source) → s ≡ get_or sources k s → t ≡ get_or sources k t → s ≡ t
same_reads sources k lt s t is_s is_t = is_s ∙ get_or_default sources k s t lt ∙ sym is_t
