-- How a merge begins and ends.
use Rattle.std.proofs.Common.{◌≡◌, ◌<◌, ◌≤◌, ◌-◌, ℕ, zero, suc, true, false, Bool, List, [], ◌∷◌, ◌++◌, length, map, get_or, Option, Some, None, refl, sym, ap, subst, ◌∙◌, ⊎_elim, arith, length-append}
use Rattle.std.specs.Prelude.{Contains, Vec}
use Rattle.std.specs.List.{AllByRecursion, flat_map}
use Rattle.std.proofs.lemmas.List.{append-nil, get_or-map, length-map}
use Rattle.zknow.specs.declared.fact.Fact.{Fact}
use Rattle.zknow.specs.declared.saved.loading.LoadError.{LoadError}
use Rattle.zknow.specs.Encodings.{encoding}
use Rattle.zknow.specs.Tables.DistinctLaws.{in_head, in_tail}
use Rattle.zknow.specs.Saved.SavedFacts.{saved_names, saved_fact}
use Rattle.zknow.specs.Saved.Saved.{IsWithinLimits, IsSaved}
use Rattle.zknow.proofs.SavedTheory.OneElement.{element_some, one_element}
use Rattle.zknow.proofs.SavedTheory.FactRuns.{bodies, GoesOn, files_part}
use Rattle.zknow.proofs.SavedTheory.LoadExact.{saved_once}
use Rattle.std.proofs.lemmas.List.Elements.{Contains-append_left}
use Rattle.zknow_merge.specs.declared.merge.Merge.{Merge}
use Rattle.zknow_merge.specs.declared.refusal.Refusal.{Refusal}
use Rattle.zknow_merge.specs.declared.refusal.Refusal.TheVariants as refusals
use Rattle.zknow_merge.specs.declared.source.Source.{Source}
use Rattle.zknow_merge.specs.Inputs.{Input, no_input, input_at, octets_of, AreWhole}
use Rattle.zknow_merge.specs.Joins.{HasNames, IsFactIn, IsJoin}
use Rattle.zknow_merge.specs.Sources.{IsElementOption, IsOtherOption, IsDone, IsWanting, HasReadNames, HasReadOthers, HasReadFacts, IsReadFrom, AreSettled, AreNoneWaiting}
use Rattle.zknow_merge.specs.Merges.{IsCut, same_names, IsMerge, IsStep, AreSound, IsFirstFaultyInput, IsFirstInputOfOtherNames}
use Rattle.zknow_merge.specs.Refusals.{step_of}

-- ---- a source that is done

pub done_by : (s : Source) → s.waiting ≡ false → (s.names ≡ None → ⊥) → (IsWanting s → ⊥) → (b : Bool) → s.ended ≡ b → (o : List ℕ) → s.octets.items ≡ o → IsDone s
done_by s waits named settled true ended [] none = record { merged = waits; ended = ended; read = none; named = named }
done_by s waits named settled true ended (x ∷ xs) some =
    absurd (settled (record { merged = waits; more = λ done. omega (arith, ap length (sym some ∙ done.read)) }))
done_by s waits named settled false open_now o is =
    absurd (settled (record { merged = waits; more = λ done. let a = done.ended in absurd cc }))

-- all of its input was read
pub record IsWholeFile (merged : List Fact) (i : Input) (s : Source) : Type 0 where
  pub read : HasReadFacts merged i.octets s
  pub ended : i.ended ≡ true

pub begun : (merged : List Fact) (i : Input) (s : Source) (r : IsReadFrom merged i s) → (IsWanting s → ⊥) → HasReadFacts merged r.front s
begun merged i s r settled = ⊎_elim
    (λ n. absurd (settled (record { merged = n.waits; more = λ done. done.named n.names })))
    (λ q. q)
    r.read

named_source : (names : List (List ℕ)) (s : Source) → HasReadNames names s → s.names ≡ None → ⊥
named_source names s h is = rw is at h

pub whole_file : (merged : List Fact) (i : Input) (s : Source) → IsReadFrom merged i s → (IsWanting s → ⊥) → s.waiting ≡ false → IsWholeFile merged i s
whole_file merged i s r settled waits =
    let q = begun merged i s r settled in
    let done = done_by s waits (named_source q.names s q.named) settled s.ended refl s.octets.items refl in
    let all : r.front ≡ i.octets = sym (r.cut ∙ ap (λ (l : List ℕ). r.front ++ l) done.read ∙ append-nil r.front) in
    record { read = subst (λ (l : List ℕ). HasReadFacts merged l s) all q; ended = r.ended ∙ done.ended }

-- ---- names

pub same_option : {A : Type 0} (o : Option (Vec ℕ A)) (xs ys : List ℕ) → IsElementOption o xs → IsElementOption o ys → xs ≡ ys
same_option None xs ys a b = absurd a
same_option (Some v) xs ys a b = sym a ∙ b

pub same_encodings : (names others : List (List ℕ)) (s : Source) → HasReadNames names s → HasReadNames others s → encoding saved_names names ≡ encoding saved_names others
same_encodings names others s a b = same_option s.names (encoding saved_names names) (encoding saved_names others) a b

one_names : (names others : List (List ℕ)) → IsWithinLimits saved_names names → IsWithinLimits saved_names others → encoding saved_names names ≡ encoding saved_names others → names ≡ others
one_names names others a b same =
    (one_element saved_names names others (encoding saved_names names) (encoding saved_names others) [] [] a b (ap (λ (l : List ℕ). l ++ []) same)).0

-- ---- what a file begins with, it has

fact_of_whole : (names others : List (List ℕ)) (facts more : List Fact) (front rest : List ℕ) (f : Fact) → IsSaved names facts front → IsSaved others more (front ++ rest) → Contains facts f → Contains more f
fact_of_whole names others facts more front rest f is whole here = ⊎_elim
    (λ both. subst (λ (l : List Fact). Contains l f) both.0 here)
    (λ part. ⊎_elim
    (λ longer. absurd (nothing_next facts more longer))
    (λ shorter. subst (λ (l : List Fact). Contains l f) (sym shorter.whole) (Contains-append_left facts (shorter.fact ∷ shorter.more) f here))
    part)
    (files_part names others facts more front (front ++ rest) rest [] is whole (sym (append-nil (front ++ rest))))
  where
    nothing_next : (xs ys : List Fact) → GoesOn xs ys [] rest → ⊥
    nothing_next xs ys next =
        omega (arith, element_some saved_fact next.fact (encoding saved_fact next.fact) next.fits, ap length next.follows, length-append (encoding saved_fact next.fact) (bodies next.more ++ rest))

pub all_in : {X : Type 0} (P : X → Type 0) (xs : List X) → ((x : X) → Contains xs x → P x) → AllByRecursion P xs
all_in P [] each = tt
all_in P (x ∷ xs) each = (each x (in_head x xs), all_in P xs (λ y here. each y (in_tail x xs y here)))

-- one of the sources
pub with_source : (sources : List Source) → 0 < length sources → Source
with_source [] some = absurd (omega (arith, some))
with_source (s ∷ ss) some = s

-- ---- the end

module _ (inputs : List Input) (written : List ℕ) (m : Merge) (was : IsMerge inputs written m) (settled : AreSettled m.sources.items) (quiet : AreNoneWaiting m.sources.items (length m.sources.items)) (named : m.named ≡ true) where
  file_at : (k : ℕ) (d : Source) → k < length m.sources.items → IsWholeFile was.merged (input_at inputs k) (get_or m.sources.items k d)
  file_at k d lt = whole_file was.merged (input_at inputs k) (get_or m.sources.items k d) (was.read k d lt) (settled k d lt) (quiet k d lt lt)

  -- the names of the first source, as it read them
  module _ (d : Source) (some : 0 < length m.sources.items) where
    first_names : List (List ℕ)
    first_names = (file_at 0 d some).read.names

    first_encoding : 0 < same_names m.refusal (length m.sources.items) → encoding saved_names was.names ≡ encoding saved_names (file_at 0 d some).read.names
    first_encoding alike = same_encodings was.names (file_at 0 d some).read.names (get_or m.sources.items 0 d) (was.named named 0 d alike some) (file_at 0 d some).read.named

    names_at : (k : ℕ) (lt : k < length m.sources.items) → 0 < same_names m.refusal (length m.sources.items) → k < same_names m.refusal (length m.sources.items) → (file_at k d lt).read.names ≡ (file_at 0 d some).read.names
    names_at k lt alike same =
        let at_k = file_at k d lt in
        let at_first = file_at 0 d some in
        one_names at_k.read.names at_first.read.names at_k.read.saved.names_fit at_first.read.saved.names_fit
        (sym (same_encodings was.names at_k.read.names (get_or m.sources.items k d) (was.named named k d same lt) at_k.read.named) ∙ first_encoding alike)

    sound_at : (count : ℕ) → count ≤ same_names m.refusal (length m.sources.items) → count ≤ length m.sources.items → AreSound inputs (file_at 0 d some).read.names count
    sound_at count alike few k lt =
        let below : k < length m.sources.items = omega (arith, lt, few) in
        let at_k = file_at k d below in
        let is = names_at k below (omega (arith, lt, alike)) (omega (arith, lt, alike)) in
        (at_k.ended, (at_k.read.facts, subst (λ (n : List (List ℕ)). IsSaved n at_k.read.facts (input_at inputs k).octets) is at_k.read.saved))

  -- the first so many inputs are sound; of none nothing is to be shown
  sound_front : (count : ℕ) → count ≤ same_names m.refusal (length m.sources.items) → count ≤ length m.sources.items → (names : List (List ℕ)) × AreSound inputs names count
  sound_front zero alike few = ([], λ k lt. absurd (omega (arith, lt)))
  sound_front (suc n) alike few =
      let some : 0 < length m.sources.items = omega (arith, few) in
      let d = with_source m.sources.items some in
      ((file_at 0 d some).read.names, sound_at d some (suc n) alike few)

  pub first_fault : (e : LoadError) → m.refusal ≡ Some (refusals.Fault e) → IsFirstFaultyInput inputs (length m.sources.items) e
  first_fault e is =
      let cut = subst (λ (r : Option Refusal). IsCut r inputs was.names m.sources.items) is was.cut in
      let alike : same_names m.refusal (length m.sources.items) ≡ length m.sources.items = ap (λ (r : Option Refusal). same_names r (length m.sources.items)) is in
      let front = sound_front (length m.sources.items) (omega (arith, alike)) (omega arith) in
      record { among = cut.few; names = front.0; before = front.1; is = cut.is }

  pub first_others : m.refusal ≡ Some refusals.NamesDiffer → IsFirstInputOfOtherNames inputs (length m.sources.items - 1)
  first_others is =
      let cut = subst (λ (r : Option Refusal). IsCut r inputs was.names m.sources.items) is was.cut in
      let alike : same_names m.refusal (length m.sources.items) ≡ length m.sources.items - 1 = ap (λ (r : Option Refusal). same_names r (length m.sources.items)) is in
      let some : 0 < length m.sources.items = omega (arith, cut.some) in
      let d = with_source m.sources.items some in
      let last : length m.sources.items - 1 < length m.sources.items = omega (arith, cut.some) in
      let at_last = file_at (length m.sources.items - 1) d last in
      record {
        among = omega (arith, cut.few, cut.some);
        some = omega (arith, cut.some);
        names = (file_at 0 d some).read.names;
        before = sound_at d some (length m.sources.items - 1) (omega (arith, alike)) (omega (arith, cut.some));
        ended = at_last.ended;
        others = at_last.read.names;
        file = (at_last.read.facts, at_last.read.saved);
        differ = λ same. other_names (get_or m.sources.items (length m.sources.items - 1) d) was.names at_last.read.names (cut.others d) at_last.read.named
            (ap (encoding saved_names) same ∙ sym (first_encoding d some (omega (arith, alike, cut.some))));
      }
    where
      other_option : {A : Type 0} (o : Option (Vec ℕ A)) (xs ys : List ℕ) → IsOtherOption o xs → IsElementOption o ys → ys ≡ xs → ⊥
      other_option None xs ys a b same = a
      other_option (Some v) xs ys a b same = a (b ∙ same)

      other_names : (s : Source) (names others : List (List ℕ)) → HasReadOthers names s → HasReadNames others s → encoding saved_names others ≡ encoding saved_names names → ⊥
      other_names s names others a b same = other_option s.names (encoding saved_names names) (encoding saved_names others) a b same

  -- what the refusal says
  pub refused : (q : Refusal) → m.refusal ≡ Some q → IsStep inputs written (step_of q (length m.sources.items))
  refused (refusals.Fault e) is = first_fault e is
  refused refusals.NamesDiffer is = first_others is

  -- ---- all inputs are merged

  module _ (whole : m.refusal ≡ None) where
    count_is : length m.sources.items ≡ length inputs
    count_is = subst (λ (r : Option Refusal). IsCut r inputs was.names m.sources.items) whole was.cut

    alike_all : same_names m.refusal (length m.sources.items) ≡ length m.sources.items
    alike_all = ap (λ (r : Option Refusal). same_names r (length m.sources.items)) whole

    some_source : 0 < length m.sources.items
    some_source = omega (arith, was.some, count_is)

    d : Source
    d = with_source m.sources.items some_source

    names_is : encoding saved_names was.names ≡ encoding saved_names (file_at 0 d some_source).read.names
    names_is = first_encoding d some_source (omega (arith, alike_all, some_source))

    all_sound : AreSound inputs (file_at 0 d some_source).read.names (length inputs)
    all_sound = sound_at d some_source (length inputs) (omega (arith, alike_all, count_is)) (omega (arith, count_is))

    file_among : (k : ℕ) → k < length inputs → Contains (map octets_of inputs) (input_at inputs k).octets
    file_among k lt = (k, omega (arith, lt, length-map inputs octets_of), get_or-map octets_of inputs k no_input (input_at inputs k).octets lt)

    file_of : (file : List ℕ) (here : Contains (map octets_of inputs) file) → (here.0 < length inputs) × ((input_at inputs here.0).octets ≡ file)
    file_of file here =
        let lt : here.0 < length inputs = omega (arith, here.1, length-map inputs octets_of) in
        (lt, sym (get_or-map octets_of inputs here.0 no_input file lt) ∙ here.2)

    from_merged : (f : Fact) → Contains was.merged f → IsFactIn (map octets_of inputs) f
    from_merged f here =
        let ahead = was.facts.ahead f here in
        let at = file_at ahead.number d (omega (arith, ahead.among, count_is)) in
        record {
          file = (input_at inputs ahead.number).octets;
          among = file_among ahead.number ahead.among;
          names = at.read.names;
          facts = at.read.facts;
          saved = at.read.saved;
          has = fact_of_whole ahead.names at.read.names ahead.facts at.read.facts ahead.front ahead.rest f ahead.saved
              (subst (IsSaved at.read.names at.read.facts) ahead.cut at.read.saved) ahead.has;
        }

    to_merged : (f : Fact) → IsFactIn (map octets_of inputs) f → Contains was.merged f
    to_merged f h =
        let place = file_of h.file h.among in
        let lt : h.among.0 < length m.sources.items = omega (arith, place.0, count_is) in
        let at = file_at h.among.0 d lt in
        let same = (saved_once (input_at inputs h.among.0).octets h.names at.read.names h.facts at.read.facts (subst (IsSaved h.names h.facts) (sym place.1) h.saved) at.read.saved).1 in
        ⊎_elim (λ there. there) (λ waits. let a = waits.0 in let b = quiet h.among.0 d lt lt in absurd cc)
        (at.read.passed f (subst (λ (l : List Fact). Contains l f) same h.has))

    pub all_joined : IsJoin (map octets_of inputs) written
    all_joined = record {
      names = (file_at 0 d some_source).read.names;
      facts = was.merged;
      saved = record {
        octets = was.handed whole named ∙ ap (λ (l : List ℕ). l ++ flat_map (encoding saved_fact) was.merged) names_is;
        ordered = was.facts.ordered;
        names_fit = (file_at 0 d some_source).read.saved.names_fit;
        facts_fit = all_in (IsWithinLimits saved_fact) was.merged (λ f here. (was.facts.savable f here).fits);
      };
      some = ((input_at inputs 0).octets, file_among 0 was.some);
      each = λ file here.
          let place = file_of file here in
          subst (HasNames (file_at 0 d some_source).read.names) place.1 (all_sound here.0 place.0).1;
      union = λ f. (from_merged f, to_merged f);
    }

    pub all_whole : AreWhole inputs
    all_whole k lt = (all_sound k lt).0
