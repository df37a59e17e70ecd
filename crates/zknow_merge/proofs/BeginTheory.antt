-- A merge that compared the names.
use Rattle.std.proofs.Common.{◌≡◌, ◌<◌, ◌-◌, ◌+◌, ℕ, zero, suc, true, false, List, [], ◌++◌, length, take, get_or, Option, Some, None, refl, sym, ap, subst, ◌∙◌, arith, length-take}
use Rattle.std.specs.Prelude.{Vec}
use Rattle.std.proofs.lemmas.List.{append-nil, get_or-take}
use Rattle.zknow.specs.Encodings.{encoding}
use Rattle.zknow.specs.Saved.SavedFacts.{saved_names}
use Rattle.zknow.specs.Saved.Saved.{saved}
use Rattle.zknow_merge.specs.declared.merge.Merge.{Merge}
use Rattle.zknow_merge.specs.declared.refusal.Refusal.{Refusal}
use Rattle.zknow_merge.specs.declared.refusal.Refusal.TheVariants as refusals
use Rattle.zknow_merge.specs.declared.source.Source.{Source}
use Rattle.zknow_merge.specs.Inputs.{Input, input_at}
use Rattle.zknow_merge.specs.Sources.{IsElementOption, IsOtherOption, HasReadNames, HasReadOthers, HasReadFacts, IsReadFrom, AreSettled, AreSame, IsFirstSourceOfOtherNames}
use Rattle.zknow_merge.specs.Merges.{AreNamed, IsCut, same_names, IsMerge, ArePutNames}
use Rattle.zknow_merge.proofs.StepTheory.{few_sources}
use Rattle.zknow_merge.proofs.EndTheory.{begun, same_option, with_source}

both_options : {A : Type 0} (o : Option (Vec ℕ A)) (xs : List ℕ) → IsOtherOption o xs → IsElementOption o xs → ⊥
both_options None xs a b = a
both_options (Some v) xs a b = a b

named_option : {A : Type 0} (o : Option (Vec ℕ A)) (xs : List ℕ) → IsElementOption o xs → o ≡ None → ⊥
named_option None xs h is = h
named_option (Some v) xs h is = absurd cc

module _ (inputs : List Input) (written : List ℕ) (m : Merge) (was : IsMerge inputs written m) (settled : AreSettled m.sources.items) (unnamed : m.named ≡ false) where
  begun_at : (k : ℕ) (d : Source) (lt : k < length m.sources.items) → HasReadFacts was.merged (was.read k d lt).front (get_or m.sources.items k d)
  begun_at k d lt = begun was.merged (input_at inputs k) (get_or m.sources.items k d) (was.read k d lt) (settled k d lt)

  -- sources have the names of the first, where they were compared
  same_names_at : (d : Source) (some : 0 < length m.sources.items) (count : ℕ) → AreSame m.sources.items count → (k : ℕ) (e : Source) → k < count → k < length m.sources.items → HasReadNames (begun_at 0 d some).names (get_or m.sources.items k e)
  same_names_at d some count same k e below lt = same k d e below lt (begun_at 0 d some).names (begun_at 0 d some).named

  some_of : (n : ℕ) → length m.sources.items ≡ suc n → 0 < length m.sources.items
  some_of n is = omega (arith, is)

  abbrev names_by : (n : ℕ) → length m.sources.items ≡ n → List (List ℕ)
  names_by zero is = []
  names_by (suc n) is = (begun_at 0 (with_source m.sources.items (some_of n is)) (some_of n is)).names

  named_by : (n : ℕ) (is : length m.sources.items ≡ n) (count : ℕ) → AreSame m.sources.items count → (k : ℕ) (e : Source) → k < count → k < length m.sources.items → HasReadNames (names_by n is) (get_or m.sources.items k e)
  named_by zero is count same k e below lt = absurd (omega (arith, is, lt))
  named_by (suc n) is count same k e below lt = same_names_at (with_source m.sources.items (some_of n is)) (some_of n is) count same k e below lt

  put_by : (n : ℕ) (is : length m.sources.items ≡ n) (before after : List ℕ) (p : ArePutNames m.refusal m.sources.items before after) → m.refusal ≡ None → 0 < length m.sources.items → p.more ≡ encoding saved_names (names_by n is)
  put_by zero is before after p whole some = absurd (omega (arith, is, some))
  put_by (suc n) is before after p whole some =
      let d = with_source m.sources.items (some_of n is) in
      let first = begun_at 0 d (some_of n is) in
      same_option (get_or m.sources.items 0 d).names p.more (encoding saved_names first.names)
      (p.names whole some d (named_option (get_or m.sources.items 0 d).names (encoding saved_names first.names) first.named)) first.named

  -- ---- all have the same

  module _ (before after : List ℕ) (p : ArePutNames m.refusal m.sources.items before after) (same : AreSame m.sources.items (length m.sources.items)) where
    all_named : AreNamed (names_by (length m.sources.items) refl) m.sources.items (length m.sources.items)
    all_named k e below lt = named_by (length m.sources.items) refl (length m.sources.items) same k e below lt

    few_named : (r : Option Refusal) → (r ≡ Some refusals.NamesDiffer → ⊥) → AreNamed (names_by (length m.sources.items) refl) m.sources.items (same_names r (length m.sources.items))
    few_named None never = all_named
    few_named (Some (refusals.Fault e)) never = all_named
    few_named (Some refusals.NamesDiffer) never = absurd (never refl)

    cut_named : (r : Option Refusal) (names : List (List ℕ)) → (r ≡ Some refusals.NamesDiffer → ⊥) → IsCut r inputs was.names m.sources.items → IsCut r inputs names m.sources.items
    cut_named None names never cut = cut
    cut_named (Some (refusals.Fault e)) names never cut = cut
    cut_named (Some refusals.NamesDiffer) names never cut = absurd (never refl)

    pub all_begun : IsMerge inputs (written ++ p.more) (record m { named = true })
    all_begun =
        let u = was.unnamed unnamed in
        record {
          some = was.some;
          names = names_by (length m.sources.items) refl;
          merged = was.merged;
          read = was.read;
          facts = was.facts;
          last = record { none = was.last.none; some = was.last.some };
          cut = cut_named m.refusal (names_by (length m.sources.items) refl) u.alike was.cut;
          named = λ _. few_named m.refusal u.alike;
          unnamed = λ e. absurd cc;
          handed = λ whole _.
              let count : length m.sources.items ≡ length inputs = subst (λ (r : Option Refusal). IsCut r inputs was.names m.sources.items) whole was.cut in
              ap (λ (l : List ℕ). l ++ p.more) u.nothing
              ∙ put_by (length m.sources.items) refl before after p whole (omega (arith, was.some, count))
              ∙ sym (append-nil (encoding saved_names (names_by (length m.sources.items) refl)))
              ∙ ap (saved (names_by (length m.sources.items) refl)) (sym u.none);
        }

  -- ---- one has others

  module _ (k : ℕ) (other : IsFirstSourceOfOtherNames m.sources.items k) (n : Merge) (items : n.sources.items ≡ take (k + 1) m.sources.items) (is : n ≡ record m { sources = n.sources; refusal = Some refusals.NamesDiffer; named = true }) where
    some_source : 0 < length m.sources.items
    some_source = omega (arith, other.among)

    d : Source
    d = with_source m.sources.items some_source

    not_first : k ≡ 0 → ⊥
    not_first zero_is = both_options (get_or m.sources.items 0 d).names (encoding saved_names (begun_at 0 d some_source).names)
        (subst (λ (q : ℕ). HasReadOthers (begun_at 0 d some_source).names (get_or m.sources.items q d)) zero_is
        (other.others d d (begun_at 0 d some_source).names (begun_at k d other.among).names (begun_at 0 d some_source).named (begun_at k d other.among).named))
        (begun_at 0 d some_source).named

    short : length n.sources.items ≡ k + 1
    short = omega (arith, ap length items, length-take (k + 1) m.sources.items, other.among)

    at_front : (j : ℕ) (e : Source) → j < k + 1 → get_or n.sources.items j e ≡ get_or m.sources.items j e
    at_front j e below = ap (λ (l : List Source). get_or l j e) items ∙ get_or-take (k + 1) m.sources.items j e below

    pub cut_begun : IsMerge inputs (written ++ []) n
    cut_begun =
        let u = was.unnamed unnamed in
        let now : IsMerge inputs (written ++ []) (record m { sources = n.sources; refusal = Some refusals.NamesDiffer; named = true }) = record {
          some = was.some;
          names = (begun_at 0 d some_source).names;
          merged = was.merged;
          read = λ j e below.
              let early : j < k + 1 = omega (arith, below, short) in
              subst (IsReadFrom was.merged (input_at inputs j)) (sym (at_front j e early)) (was.read j e (omega (arith, early, other.among)));
          facts = was.facts;
          last = record { none = was.last.none; some = was.last.some };
          cut = record {
            few = omega (arith, short, other.among, few_sources m.refusal inputs was.names m.sources.items was.cut);
            some = omega (arith, short, not_first);
            others = λ e.
                let at : length n.sources.items - 1 ≡ k = omega (arith, short) in
                subst (λ (q : ℕ). HasReadOthers (begun_at 0 d some_source).names (get_or n.sources.items q e)) (sym at)
                (subst (HasReadOthers (begun_at 0 d some_source).names) (sym (at_front k e (omega arith)))
                (other.others d e (begun_at 0 d some_source).names (begun_at k e other.among).names (begun_at 0 d some_source).named (begun_at k e other.among).named));
          };
          named = λ _ j e below here.
              let early : j < k = omega (arith, below, short) in
              subst (HasReadNames (begun_at 0 d some_source).names) (sym (at_front j e (omega (arith, early))))
              (same_names_at d some_source k other.before j e early (omega (arith, early, other.among)));
          unnamed = λ e. absurd cc;
          handed = λ none _. absurd cc;
        } in
        subst (IsMerge inputs (written ++ [])) (sym is) now
