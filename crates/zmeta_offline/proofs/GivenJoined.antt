-- What is given of saved files, and their facts that are no records, are what they have together. A file whose octets
-- are not known may have any facts, so that its records are those that are given.
use Rattle.std.proofs.Common.{◌≡◌, ◌⊎◌, ◌↔◌, ℕ, Bool, true, false, not, List, [], ◌∷◌, ◌++◌, Option, Some, None, refl, sym, subst, ◌∙◌, inl, inr, ⊎_elim}
use Rattle.std.specs.Prelude.{Contains, IfSome, slice_get}
use Rattle.std.specs.Option.{IsSome}
use Rattle.zapdu.specs.declared.productions.record.Record.{Record}
use Rattle.zknow.specs.declared.fact.Fact.{Fact}
use Rattle.zknow.specs.declared.fact.Fact.TheVariants.{Count, Failed, Seen, Diag}
use Rattle.zknow.specs.declared.tables.keys.RowKey.{RowKey}
use Rattle.zknow.specs.FactLaws.{same_facts}
use Rattle.zknow.specs.Facts.{fact_cmp, fact_target, AreFacts}
use Rattle.zknow.specs.Known.{HasFailure}
use Rattle.zknow.specs.List.Listing.{block_key_of, row_key_of}
use Rattle.zknow.specs.Saved.Saved.{IsSaved, IsWithinLimits}
use Rattle.zknow.specs.Saved.SavedFacts.{saved_fact}
use Rattle.zknow.specs.Tables.DistinctLaws.{none_in_nil, in_cons, each_in}
use Rattle.zknow.proofs.TableTheory.InSections.{all_from}
use Rattle.zknow_forms.specs.Forms.{AreOthers, AreInParts}
use Rattle.zknow_records.specs.Parts.{HasRecord, AreParts}
use Rattle.zknow_records.specs.Records.{records_octets, left_out}
use Rattle.zknow_records.proofs.PartTheory.{octets_in_parts, left_in_parts}
use Rattle.zknow_runs.specs.Placed.{IsKnownTaken}
use Rattle.zknow_runs.specs.Rows.{AreGiven}
use Rattle.zknow_runs.specs.declared.rows.Chosen.{Chosen}
use Rattle.zknow_runs.proofs.UnionTheory.{Joined, union_of, Kept, kept_of, DoFit, fits_agree, no_facts}
use Rattle.zmeta_offline.specs.Catalogues.{is_chosen, is_of_chosen, IsOfCatalogues}
use Rattle.zmeta_offline.specs.Join.{AreJoined}
use Rattle.zmeta_offline.specs.Marked.{AreSavedEach, AreChosen, AreOthersOf, file_at, HasUnknown, HasChosenFailure}
use Rattle.zmeta_offline.proofs.MarkedSources.{taken_if, if_taken, AmongKnown, known_at, at_known, known_fits}
use Rattle.zmeta_offline.proofs.SavedEach.{IsAmong, among_cons, JoinedAs, joined_each}

-- ---- facts with the same records

-- they are a part beside nothing
one_part : (xs ys : List Fact) → AreFacts xs → AreFacts ys
    → ((k : RowKey) (r : Record) → HasRecord xs k r ↔ HasRecord ys k r) → AreParts [] ys xs
one_part xs ys of_xs of_ys same = record {
  low_facts = no_facts;
  high_facts = of_ys;
  all_facts = of_xs;
  union = λ k r. (
    λ h. inr ((same k r).0 h),
    ⊎_elim (λ h. absurd (none_in_nil (Seen k.target k.set k.position r) h)) (same k r).1,
  );
  apart = λ k q r s h there. absurd (none_in_nil (Seen k.target k.set k.position r) h);
}

module _ (asked : Option (List ℕ)) (conflicts : Bool) (xs ys : List Fact) (of_xs : AreFacts xs) (of_ys : AreFacts ys)
    (same : (k : RowKey) (r : Record) → HasRecord xs k r ↔ HasRecord ys k r) where
  of_both : AreParts [] ys xs
  of_both = one_part xs ys of_xs of_ys same

  of_one : AreParts [] ys ys
  of_one = one_part ys ys of_ys of_ys (λ k r. (λ h. h, λ h. h))

  octets_same : records_octets asked conflicts xs ≡ records_octets asked conflicts ys
  octets_same =
      octets_in_parts asked conflicts [] ys xs of_both ∙ sym (octets_in_parts asked conflicts [] ys ys of_one)

  left_same : left_out asked conflicts xs ≡ left_out asked conflicts ys
  left_same = left_in_parts asked conflicts [] ys xs of_both ∙ sym (left_in_parts asked conflicts [] ys ys of_one)

-- ---- files whose octets are not known, with other facts

-- the fact has a record
abbrev is_record : Fact → Bool
is_record (Count t s n) = false
is_record (Failed t s) = false
is_record (Seen t s p r) = true
is_record (Diag t s p d) = false

module _ (octets : List ℕ → Option (List ℕ)) (names : List (List ℕ)) (given : List Fact) (of_given : AreFacts given)
    (given_fits : DoFit given) where
  -- the facts of a file, or, if its octets are not known, those without records, and what is given
  abbrev HasInstead : Option (List ℕ) → List Fact → Fact → Type 0
  HasInstead None facts f = (Contains facts f × (not (is_record f) ≡ true)) ⊎ Contains given f
  HasInstead (Some file) facts f = Contains facts f

  abbrev Instead : Option (List ℕ) → List Fact → Type 0
  Instead o facts = (mine : List Fact) × IfSome o (λ file. IsSaved names mine file) × AreFacts mine × DoFit mine
      × ((f : Fact) → Contains mine f ↔ HasInstead o facts f)

  instead_by : (o : Option (List ℕ)) (facts : List Fact) → IfSome o (λ file. IsSaved names facts file)
      → AreFacts facts → DoFit facts → Instead o facts
  instead_by None facts is good fits =
      let kept : Kept (λ f. not (is_record f)) facts = kept_of (λ f. not (is_record f)) facts good in
      let kept_fits : DoFit kept.0 = λ f h. fits f ((kept.2 f).0 h).0 in
      let both : Joined kept.0 given =
      union_of kept.0 given kept.1 of_given (fits_agree kept.0 given kept_fits given_fits) in (
        both.0,
        tt,
        both.1,
        λ f h. ⊎_elim (kept_fits f) (given_fits f) ((both.2 f).0 h),
        λ f. (
          λ h. ⊎_elim (λ k. inl ((kept.2 f).0 k)) inr ((both.2 f).0 h),
          ⊎_elim (λ k. (both.2 f).1 (inl ((kept.2 f).1 k))) (λ g. (both.2 f).1 (inr g)),
        ),
      )
  instead_by (Some file) facts is good fits = (facts, is, good, fits, λ f. (λ h. h, λ h. h))

  -- one of the files has the fact then
  abbrev AmongInstead : List (List ℕ) → List (List Fact) → Fact → Type 0
  AmongInstead (path ∷ paths) (facts ∷ theirs) f =
      HasInstead (octets path) facts f ⊎ AmongInstead paths theirs f
  AmongInstead _ _ f = ⊥

  abbrev InsteadOf : List (List ℕ) → List (List Fact) → Type 0
  InsteadOf paths theirs = (others : List (List Fact)) × AreSavedEach octets names paths others
      × ((f : Fact) → IsAmong others f ↔ AmongInstead paths theirs f)

  instead_of : (paths : List (List ℕ)) (theirs : List (List Fact)) → AreSavedEach octets names paths theirs
      → InsteadOf paths theirs
  instead_of [] [] saved = ([], saved, λ f. (λ a. absurd (none_in_nil a.0 a.1), λ h. absurd h))
  instead_of [] (facts ∷ theirs) saved = absurd saved
  instead_of (path ∷ paths) [] saved = absurd saved
  instead_of (path ∷ paths) (facts ∷ theirs) saved =
      let one : Instead (octets path) facts =
      instead_by (octets path) facts saved.0 saved.1 (λ f h. each_in (IsWithinLimits saved_fact) facts saved.2 f h) in
      let more : InsteadOf paths theirs = instead_of paths theirs saved.3 in (
        one.0 ∷ more.0,
        (one.1, one.2, all_from fact_cmp (IsWithinLimits saved_fact) one.0 one.3, more.1),
        λ f. (
          λ a. ⊎_elim (λ h. inl ((one.4 f).0 h)) (λ b. inr ((more.2 f).0 b)) ((among_cons one.0 more.0 f).0 a),
          ⊎_elim (λ h. (among_cons one.0 more.0 f).1 (inl ((one.4 f).1 h)))
              (λ b. (among_cons one.0 more.0 f).1 (inr ((more.2 f).1 b))),
        ),
      )

  -- ---- which facts these are

  record_by : (o : Option (List ℕ)) (facts : List Fact) (f : Fact) → is_record f ≡ true → HasInstead o facts f
      → (IsSome o × Contains facts f) ⊎ Contains given f
  record_by None facts f is (inl h) =
      let no : not true ≡ true = subst (λ (b : Bool). not b ≡ true) is h.1 in absurd cc
  record_by None facts f is (inr g) = inr g
  record_by (Some file) facts f is h = inl (refl, h)

  instead_record : (paths : List (List ℕ)) (theirs : List (List Fact)) (f : Fact) → is_record f ≡ true
      → AmongInstead paths theirs f → AmongKnown octets names paths theirs f ⊎ Contains given f
  instead_record [] [] f is h = absurd h
  instead_record [] (facts ∷ theirs) f is h = absurd h
  instead_record (path ∷ paths) [] f is h = absurd h
  instead_record (path ∷ paths) (facts ∷ theirs) f is (inl h) =
      ⊎_elim (λ known. inl (inl known)) inr (record_by (octets path) facts f is h)
  instead_record (path ∷ paths) (facts ∷ theirs) f is (inr h) =
      ⊎_elim (λ known. inl (inr known)) inr (instead_record paths theirs f is h)

  known_by : (o : Option (List ℕ)) (facts : List Fact) (f : Fact) → IsSome o → Contains facts f → HasInstead o facts f
  known_by None facts f some h = absurd cc
  known_by (Some file) facts f some h = h

  known_instead : (paths : List (List ℕ)) (theirs : List (List Fact)) (f : Fact)
      → AmongKnown octets names paths theirs f → AmongInstead paths theirs f
  known_instead [] [] f h = absurd h
  known_instead [] (facts ∷ theirs) f h = absurd h
  known_instead (path ∷ paths) [] f h = absurd h
  known_instead (path ∷ paths) (facts ∷ theirs) f (inl h) = inl (known_by (octets path) facts f h.0 h.1)
  known_instead (path ∷ paths) (facts ∷ theirs) f (inr h) = inr (known_instead paths theirs f h)

  given_instead : (paths : List (List ℕ)) (theirs : List (List Fact)) → AreSavedEach octets names paths theirs
      → HasUnknown octets paths → (f : Fact) → Contains given f → AmongInstead paths theirs f
  given_instead [] [] saved u f g = absurd (none_in_nil u.0 u.1)
  given_instead [] (facts ∷ theirs) saved u f g = absurd saved
  given_instead (path ∷ paths) [] saved u f g = absurd saved
  given_instead (path ∷ paths) (facts ∷ theirs) saved u f g = ⊎_elim
      (λ same. let none : octets path ≡ None = subst (λ (x : List ℕ). octets x ≡ None) (sym same) u.2 in
      inl (subst (λ (o : Option (List ℕ)). HasInstead o facts f) (sym none) (inr g)))
      (λ later. inr (given_instead paths theirs saved.3 (u.0, later, u.2) f g)) (in_cons path paths u.0 u.1)

  other_by : (o : Option (List ℕ)) (facts : List Fact) (f : Fact) → not (is_record f) ≡ true → Contains facts f
      → HasInstead o facts f
  other_by None facts f is h = inl (h, is)
  other_by (Some file) facts f is h = h

  other_instead : (paths : List (List ℕ)) (theirs : List (List Fact)) → AreSavedEach octets names paths theirs
      → (f : Fact) → not (is_record f) ≡ true → IsAmong theirs f → AmongInstead paths theirs f
  other_instead [] [] saved f is a = absurd (none_in_nil a.0 a.1)
  other_instead [] (facts ∷ theirs) saved f is a = absurd saved
  other_instead (path ∷ paths) [] saved f is a = absurd saved
  other_instead (path ∷ paths) (facts ∷ theirs) saved f is a = ⊎_elim
      (λ h. inl (other_by (octets path) facts f is h)) (λ b. inr (other_instead paths theirs saved.3 f is b))
      ((among_cons facts theirs f).0 a)

  was_by : (o : Option (List ℕ)) (facts : List Fact) (f : Fact) → HasInstead o facts f
      → Contains facts f ⊎ Contains given f
  was_by None facts f (inl h) = inl h.0
  was_by None facts f (inr g) = inr g
  was_by (Some file) facts f h = inl h

  instead_was : (paths : List (List ℕ)) (theirs : List (List Fact)) (f : Fact) → AmongInstead paths theirs f
      → IsAmong theirs f ⊎ Contains given f
  instead_was [] [] f h = absurd h
  instead_was [] (facts ∷ theirs) f h = absurd h
  instead_was (path ∷ paths) [] f h = absurd h
  instead_was (path ∷ paths) (facts ∷ theirs) f (inl h) =
      ⊎_elim (λ here. inl ((among_cons facts theirs f).1 (inl here))) inr (was_by (octets path) facts f h)
  instead_was (path ∷ paths) (facts ∷ theirs) f (inr h) =
      ⊎_elim (λ a. inl ((among_cons facts theirs f).1 (inr a))) inr (instead_was paths theirs f h)

-- ---- what is given

-- The facts about the chosen catalogues that the files have together have the records that are given. They say that a
-- search or an association failed exactly if what was found in the files says so. They are those that are no records,
-- and what is given. If no catalogues are named, they are all facts.
pub record IsGivenOf (octets : List ℕ → Option (List ℕ)) (names paths only : List (List ℕ))
    (theirs : List (List Fact)) (c : Chosen) (given : List Fact) : Type 0 where
  pub all : List Fact
  pub joined : AreJoined octets names paths all
  pub facts : List Fact
  pub chosen : IsOfCatalogues only names all facts
  pub records : (asked : Option (List ℕ)) (conflicts : Bool)
      → records_octets asked conflicts facts ≡ records_octets asked conflicts given
  pub left : (asked : Option (List ℕ)) (conflicts : Bool)
      → left_out asked conflicts facts ≡ left_out asked conflicts given
  pub failed : HasFailure facts ↔ HasChosenFailure octets paths only names theirs
  pub parts : (low : List Fact) → AreOthersOf c theirs low → AreInParts low given facts
  pub whole : only ≡ [] → facts ≡ all

-- if no catalogues are named, each is chosen
any_chosen : (name : Option (List ℕ)) → is_chosen [] name ≡ true
any_chosen None = refl
any_chosen (Some name) = refl

all_chosen : (only names : List (List ℕ)) (f : Fact) → only ≡ [] → is_of_chosen only names f ≡ true
all_chosen only names f none = rw none (any_chosen (slice_get names (fact_target f)))

-- a fact without a row has no record
no_row : (f : Fact) → row_key_of f ≡ None → not (is_record f) ≡ true
no_row (Count t s n) none = refl
no_row (Failed t s) none = refl
no_row (Seen t s p r) none = absurd cc
no_row (Diag t s p d) none = refl

-- these are no records
pub others_are : (c : Chosen) (theirs : List (List Fact)) (low : List Fact) → AreOthersOf c theirs low → AreOthers low
others_are c theirs low of f h = ((of.members f).0 h).1

module _ (octets : List ℕ → Option (List ℕ)) (names : List (List ℕ)) (path : List ℕ) (others : List (List ℕ))
    (theirs : List (List Fact)) (saved : AreSavedEach octets names (path ∷ others) theirs) (only : List (List ℕ))
    (c : Chosen) (of_chosen : AreChosen only names c) (given : List Fact)
    (are : AreGiven (file_at octets (path ∷ others)) (IsKnownTaken (file_at octets (path ∷ others)) c theirs)
    (HasUnknown octets (path ∷ others)) c given) where
  abbrev paths : List (List ℕ)
  paths = path ∷ others

  given_fit : DoFit given
  given_fit f h = (are.sound f h).0.fits

  abbrev Among : Fact → Type 0
  Among f = AmongInstead octets names given are.lawful given_fit paths theirs f

  put : InsteadOf octets names given are.lawful given_fit paths theirs
  put = instead_of octets names given are.lawful given_fit paths theirs saved

  all_of : JoinedAs octets names paths (IsAmong put.0)
  all_of = joined_each octets names path others put.0 put.1

  facts_of : Kept (is_of_chosen only names) all_of.0
  facts_of = kept_of (is_of_chosen only names) all_of.0 all_of.2

  has_fact : (f : Fact) → Contains facts_of.0 f ↔ (Among f × (is_of_chosen only names f ≡ true))
  has_fact f = (
    λ h. let old = (facts_of.2 f).0 h in ((put.2 f).0 ((all_of.4 f).0 old.0), old.1),
    λ h. (facts_of.2 f).1 ((all_of.4 f).1 ((put.2 f).1 h.0), h.1),
  )

  given_record : (t s : ℕ) (p : _) (r : Record) → Contains facts_of.0 (Seen t s p r) → Contains given (Seen t s p r)
  given_record t s p r h =
      let has = (has_fact (Seen t s p r)).0 h in
      ⊎_elim
      (λ known. let at = at_known octets names paths theirs (Seen t s p r) known in
      are.complete (Seen t s p r)
      (record {
        number = at.0;
        among = at.1;
        known = at.2;
        here = at.3;
        taken =
            taken_if c (Seen t s p r) (of_chosen t ∙ has.1)
            (known_fits octets names paths theirs saved (Seen t s p r) known);
      }))
      (λ g. g)
      (instead_record octets names given are.lawful given_fit paths theirs (Seen t s p r) refl has.0)

  record_given : (t s : ℕ) (p : _) (r : Record) → Contains given (Seen t s p r) → Contains facts_of.0 (Seen t s p r)
  record_given t s p r g =
      let sound = are.sound (Seen t s p r) g in
      let among : Among (Seen t s p r) =
      ⊎_elim
      (λ w. known_instead octets names given are.lawful given_fit paths theirs (Seen t s p r)
      (known_at octets names paths theirs saved (Seen t s p r) w.number w.among w.known w.here))
      (λ u. given_instead octets names given are.lawful given_fit paths theirs saved u (Seen t s p r) g) sound.1 in
      (has_fact (Seen t s p r)).1 (among, sym (of_chosen t) ∙ if_taken c (Seen t s p r) sound.0)

  records_same : (k : RowKey) (r : Record) → HasRecord facts_of.0 k r ↔ HasRecord given k r
  records_same k r = (given_record k.target k.set k.position r, record_given k.target k.set k.position r)

  no_failure : (t s : ℕ) → Contains given (Failed t s) → ⊥
  no_failure t s g = let seen = (are.sound (Failed t s) g).0.seen in cc

  has_failed : HasFailure facts_of.0 → HasChosenFailure octets paths only names theirs
  has_failed h =
      let has = (has_fact (Failed h.0 h.1)).0 h.2 in
      ⊎_elim
      (λ a. record { facts = a.0; among = a.1; target = h.0; set = h.1; here = a.2; chosen = has.1 })
      (λ g. absurd (no_failure h.0 h.1 g))
      (instead_was octets names given are.lawful given_fit paths theirs (Failed h.0 h.1) has.0)

  failed_has : HasChosenFailure octets paths only names theirs → HasFailure facts_of.0
  failed_has h = (
    h.target,
    h.set,
    (has_fact (Failed h.target h.set)).1 (
      other_instead octets names given are.lawful given_fit paths theirs saved (Failed h.target h.set) refl
          (h.facts, h.among, h.here),
      h.chosen,
    ),
  )

  -- ---- the facts in parts

  module _ (low : List Fact) (of_low : AreOthersOf c theirs low) where
    other_part : (f : Fact) → row_key_of f ≡ None → Contains facts_of.0 f → Contains low f ⊎ Contains given f
    other_part f none h =
        let has = (has_fact f).0 h in
        ⊎_elim (λ a. inl ((of_low.members f).1 (a, none, of_chosen (fact_target f) ∙ has.1))) inr
        (instead_was octets names given are.lawful given_fit paths theirs f has.0)

    in_parts : (f : Fact) → Contains facts_of.0 f → Contains low f ⊎ Contains given f
    in_parts (Count t s n) h = other_part (Count t s n) refl h
    in_parts (Failed t s) h = other_part (Failed t s) refl h
    in_parts (Seen t s p r) h = inr (given_record t s p r h)
    in_parts (Diag t s p d) h = other_part (Diag t s p d) refl h

    low_in : (f : Fact) → Contains low f → Contains facts_of.0 f
    low_in f h =
        let m = (of_low.members f).0 h in
        (has_fact f).1 (
          other_instead octets names given are.lawful given_fit paths theirs saved f (no_row f m.1) m.0,
          sym (of_chosen (fact_target f)) ∙ m.2,
        )

    given_in : (f : Fact) → Contains given f → Contains facts_of.0 f
    given_in (Count t s n) g = let seen = (are.sound (Count t s n) g).0.seen in absurd cc
    given_in (Failed t s) g = absurd (no_failure t s g)
    given_in (Seen t s p r) g = record_given t s p r g
    given_in (Diag t s p d) g = let seen = (are.sound (Diag t s p d) g).0.seen in absurd cc

    given_blocks : (f : Fact) → Contains given f → block_key_of f ≡ None
    given_blocks (Count t s n) g = let seen = (are.sound (Count t s n) g).0.seen in absurd cc
    given_blocks (Failed t s) g = absurd (no_failure t s g)
    given_blocks (Seen t s p r) g = refl
    given_blocks (Diag t s p d) g = let seen = (are.sound (Diag t s p d) g).0.seen in absurd cc

    no_record : (k : RowKey) (r : Record) → HasRecord low k r → ⊥
    no_record k r h = let none = ((of_low.members (Seen k.target k.set k.position r)).0 h).1 in cc

    parts_of : AreInParts low given facts_of.0
    parts_of = record {
      low_facts = of_low.lawful;
      high_facts = are.lawful;
      all_facts = facts_of.1;
      union = λ f. (in_parts f, ⊎_elim (low_in f) (given_in f));
      records = given_blocks;
      apart = λ k q r s h there. absurd (no_record k r h);
    }

  whole_of : only ≡ [] → facts_of.0 ≡ all_of.0
  whole_of none =
      same_facts facts_of.0 all_of.0 facts_of.1 all_of.2
      (λ f. (λ h. ((facts_of.2 f).0 h).0, λ h. (facts_of.2 f).1 (h, all_chosen only names f none)))

  pub given_of : IsGivenOf octets names paths only theirs c given
  given_of = record {
    all = all_of.0;
    joined = all_of.1;
    facts = facts_of.0;
    chosen = record { lawful = facts_of.1; members = facts_of.2 };
    records = λ asked conflicts. octets_same asked conflicts facts_of.0 given facts_of.1 are.lawful records_same;
    left = λ asked conflicts. left_same asked conflicts facts_of.0 given facts_of.1 are.lawful records_same;
    failed = (has_failed, failed_has);
    parts = parts_of;
    whole = whole_of;
  }
