-- What the first pass finds as lists: the known records that are taken, and whether there is a file whose octets are
-- not known.
use Rattle.std.proofs.Common.{◌≡◌, ◌⊎◌, ◌↔◌, ◌<◌, ℕ, zero, suc, ℤ, Bool, true, false, List, [], ◌∷◌, ◌++◌, length, Option, Some, None, refl, sym, ap, subst, ◌∙◌, inl, inr, ⊎_elim, arith}
use Rattle.std.specs.Prelude.{Contains, slice_index_or}
use Rattle.std.specs.List.{AllByRecursion}
use Rattle.std.specs.Option.{IsSome}
use Rattle.std.proofs.lemmas.List.Elements.{Contains-append_cases, Contains-append_left, Contains-append_right}
use Rattle.zknow.specs.declared.fact.Fact.{Fact}
use Rattle.zknow.specs.declared.fact.Fact.TheVariants.{Count, Failed, Seen, Diag}
use Rattle.zknow.specs.Facts.{AreFacts}
use Rattle.zknow.specs.Saved.Saved.{IsWithinLimits}
use Rattle.zknow.specs.Saved.SavedFacts.{saved_fact}
use Rattle.zknow.specs.Tables.DistinctLaws.{none_in_nil, in_cons, in_head, in_tail, each_in}
use Rattle.zknow_runs.specs.Placed.{IsKnownTaken}
use Rattle.zknow_runs.specs.Rows.{is_taken, IsTaken, HasFacts, IsCoveredBy, IsCovered, Owes, AreAllWanted, AreGiven, Sources, AreRunsIn}
use Rattle.zknow_runs.specs.declared.rows.Chosen.{Chosen}
use Rattle.zknow_runs.specs.declared.run.Run.{Run}
use Rattle.zknow_runs.proofs.UnionTheory.{kept_of}
use Rattle.zmeta_offline.specs.Marked.{AreSavedEach, file_at, HasUnknown}

-- ---- facts that have a record that is taken

abbrev pub is_record_taken : Chosen → Fact → Bool
is_record_taken c (Count t s n) = false
is_record_taken c (Failed t s) = false
is_record_taken c (Seen t s p r) = is_taken c t
is_record_taken c (Diag t s p d) = false

pub taken_if : (c : Chosen) (f : Fact) → is_record_taken c f ≡ true → IsWithinLimits saved_fact f → IsTaken c f
taken_if c (Count t s n) is fits = absurd cc
taken_if c (Failed t s) is fits = absurd cc
taken_if c (Seen t s p r) is fits = record { target = t; position = p; seen = refl; taken = is; fits = fits }
taken_if c (Diag t s p d) is fits = absurd cc

abbrev target_in : ℕ → Option (ℕ × ℤ) → ℕ
target_in other None = other
target_in other (Some at) = at.0

pub if_taken : (c : Chosen) (f : Fact) → IsTaken c f → is_record_taken c f ≡ true
if_taken c (Count t s n) h = let seen = h.seen in absurd cc
if_taken c (Failed t s) h = let seen = h.seen in absurd cc
if_taken c (Seen t s p r) h =
    subst (λ (n : ℕ). is_taken c n ≡ true) (sym (ap (target_in t) h.seen)) h.taken
if_taken c (Diag t s p d) h = let seen = h.seen in absurd cc

-- ---- other words for what is wanted, and for what holds if octets are not known

module _ (files : ℕ → Option (List ℕ)) (wanted other : Fact → Type 0) (unknown also : Type 0)
    (to : (f : Fact) → wanted f → other f) (unknown_to : unknown → also) where
  facts_to : (file : List ℕ) (r : Run) (fs : List Fact) → HasFacts files wanted unknown file r fs
      → HasFacts files other also file r fs
  facts_to file r fs has = record {
    elements = has.elements;
    rise = has.rise;
    each = λ f h. to f (has.each f h);
  }

  covered_to : (o : Option (List ℕ)) (r : Run) → IsCoveredBy files wanted unknown o r
      → IsCoveredBy files other also o r
  covered_to None r covered = unknown_to covered
  covered_to (Some file) r covered = (covered.0, facts_to file r covered.0 covered.1)

  owes_to : (r : Run) (f : Fact) → Owes files wanted unknown r f → Owes files other also r f
  owes_to r f owes = record {
    file = owes.file;
    known = owes.known;
    facts = owes.facts;
    has = facts_to owes.file r owes.facts owes.has;
    here = owes.here;
  }

  module _ (back : (f : Fact) → other f → wanted f) where
    pub wanted_to : (runs : List Run) → AreAllWanted files wanted unknown runs → AreAllWanted files other also runs
    wanted_to runs are = record {
      covered = λ r h. covered_to (files r.file) r (are.covered r h);
      some = are.some;
      first = are.first;
      complete = λ f w. let by = are.complete f (back f w) in (by.0, by.1, owes_to by.0 f by.2);
    }

    pub given_to : (c : Chosen) (given : List Fact) → AreGiven files wanted unknown c given
        → AreGiven files other also c given
    given_to c given are = record {
      lawful = are.lawful;
      complete = λ f w. are.complete f (back f w);
      sound =
          λ f h. let by = are.sound f h in (by.0, ⊎_elim (λ w. inl (to f w)) (λ u. inr (unknown_to u)) by.1);
    }

-- ---- the facts of files whose octets are known

module _ (octets : List ℕ → Option (List ℕ)) (names : List (List ℕ)) where
  -- the fact is one of such a file
  abbrev pub AmongKnown : List (List ℕ) → List (List Fact) → Fact → Type 0
  AmongKnown (path ∷ paths) (facts ∷ theirs) f =
      (IsSome (octets path) × Contains facts f) ⊎ AmongKnown paths theirs f
  AmongKnown _ _ f = ⊥

  pub known_at : (paths : List (List ℕ)) (theirs : List (List Fact)) → AreSavedEach octets names paths theirs
      → (f : Fact) (number : ℕ) → number < length theirs → IsSome (octets (slice_index_or paths number []))
      → Contains (slice_index_or theirs number []) f → AmongKnown paths theirs f
  known_at [] [] saved f number lt known here = absurd (omega (arith, lt))
  known_at [] (facts ∷ theirs) saved f number lt known here = absurd saved
  known_at (path ∷ paths) [] saved f number lt known here = absurd saved
  known_at (path ∷ paths) (facts ∷ theirs) saved f zero lt known here = inl (known, here)
  known_at (path ∷ paths) (facts ∷ theirs) saved f (suc number) lt known here =
      inr (known_at paths theirs saved.3 f number (omega (arith, lt)) known here)

  pub at_known : (paths : List (List ℕ)) (theirs : List (List Fact)) (f : Fact) → AmongKnown paths theirs f
      → (number : ℕ) × (number < length theirs) × IsSome (octets (slice_index_or paths number []))
      × Contains (slice_index_or theirs number []) f
  at_known [] [] f h = absurd h
  at_known [] (facts ∷ theirs) f h = absurd h
  at_known (path ∷ paths) [] f h = absurd h
  at_known (path ∷ paths) (facts ∷ theirs) f (inl h) = (zero, omega arith, h.0, h.1)
  at_known (path ∷ paths) (facts ∷ theirs) f (inr h) =
      let at = at_known paths theirs f h in
      (suc at.0, omega (arith, at.1), at.2, at.3)

  pub known_fits : (paths : List (List ℕ)) (theirs : List (List Fact)) → AreSavedEach octets names paths theirs
      → (f : Fact) → AmongKnown paths theirs f → IsWithinLimits saved_fact f
  known_fits [] [] saved f h = absurd h
  known_fits [] (facts ∷ theirs) saved f h = absurd h
  known_fits (path ∷ paths) [] saved f h = absurd h
  known_fits (path ∷ paths) (facts ∷ theirs) saved f (inl h) = each_in (IsWithinLimits saved_fact) facts saved.2 f h.1
  known_fits (path ∷ paths) (facts ∷ theirs) saved f (inr h) = known_fits paths theirs saved.3 f h

  module _ (c : Chosen) where
    -- those that have records that are taken
    abbrev KnownOf : (Fact → Type 0) → Type 0
    KnownOf among = (known : List Fact)
        × ((f : Fact) → Contains known f ↔ (among f × (is_record_taken c f ≡ true)))

    known_by : (o : Option (List ℕ)) (facts : List Fact) → AreFacts facts → KnownOf (λ f. IsSome o × Contains facts f)
    known_by None facts good = (
      [],
      λ f. (λ h. absurd (none_in_nil f h), λ h. let some : IsSome {T = List ℕ} None = h.0.0 in absurd cc),
    )
    known_by (Some file) facts good =
        let kept = kept_of (is_record_taken c) facts good in (
          kept.0,
          λ f. (
            λ h. let old = (kept.2 f).0 h in ((refl, old.0), old.1),
            λ h. (kept.2 f).1 (h.0.1, h.1),
          ),
        )

    pub known_list : (paths : List (List ℕ)) (theirs : List (List Fact)) → AreSavedEach octets names paths theirs
        → KnownOf (AmongKnown paths theirs)
    known_list [] [] saved = ([], λ f. (λ h. absurd (none_in_nil f h), λ h. absurd h.0))
    known_list [] (facts ∷ theirs) saved = absurd saved
    known_list (path ∷ paths) [] saved = absurd saved
    known_list (path ∷ paths) (facts ∷ theirs) saved =
        let one : KnownOf (λ f. IsSome (octets path) × Contains facts f) =
        known_by (octets path) facts saved.1 in
        let more : KnownOf (AmongKnown paths theirs) = known_list paths theirs saved.3 in (
          one.0 ++ more.0,
          λ f. (
            λ h. ⊎_elim (λ here. let old = (one.1 f).0 here in (inl old.0, old.1))
                (λ there. let old = (more.1 f).0 there in (inr old.0, old.1))
                (Contains-append_cases one.0 more.0 f h),
            λ h. ⊎_elim (λ here. Contains-append_left one.0 more.0 f ((one.1 f).1 (here, h.1)))
                (λ there. Contains-append_right one.0 more.0 f ((more.1 f).1 (there, h.1))) h.0,
          ),
        )

  -- ---- whether there is a file whose octets are not known

  abbrev Known : List (List ℕ) → Type 0
  Known paths = (b : Bool) × ((b ≡ true) ↔ HasUnknown octets paths)

  unknown_by : (path : List ℕ) (paths : List (List ℕ)) → Known paths → (o : Option (List ℕ)) → octets path ≡ o
      → Known (path ∷ paths)
  unknown_by path paths rest None is = (true, (λ e. (path, in_head path paths, is), λ h. refl))
  unknown_by path paths rest (Some file) is = (
    rest.0,
    (
      λ e. let found = rest.1.0 e in (found.0, in_tail path paths found.0 found.1, found.2),
      λ h. ⊎_elim
          (λ same. let none : octets path ≡ None = subst (λ (x : List ℕ). octets x ≡ None) (sym same) h.2 in absurd cc)
          (λ later. rest.1.1 (h.0, later, h.2)) (in_cons path paths h.0 h.1),
    ),
  )

  pub has_unknown : (paths : List (List ℕ)) → Known paths
  has_unknown [] = (false, (λ e. absurd cc, λ h. absurd (none_in_nil h.0 h.1)))
  has_unknown (path ∷ paths) = unknown_by path paths (has_unknown paths) (octets path) refl

  -- ---- both

  module _ (paths : List (List ℕ)) (theirs : List (List Fact)) (saved : AreSavedEach octets names paths theirs)
      (c : Chosen) where
    abbrev pub sources : Sources
    sources = record {
      files = file_at octets paths;
      known = (known_list c paths theirs saved).0;
      unknown = (has_unknown paths).0;
    }

    abbrev IsWanted : Fact → Type 0
    IsWanted f = IsKnownTaken (file_at octets paths) c theirs f

    known_wanted : (f : Fact) → Contains sources.known f → IsWanted f
    known_wanted f h =
        let old = ((known_list c paths theirs saved).1 f).0 h in
        let at = at_known paths theirs f old.0 in
        record {
          number = at.0;
          among = at.1;
          known = at.2;
          here = at.3;
          taken = taken_if c f old.1 (known_fits paths theirs saved f old.0);
        }

    wanted_known : (f : Fact) → IsWanted f → Contains sources.known f
    wanted_known f w =
        ((known_list c paths theirs saved).1 f).1
        (known_at paths theirs saved f w.number w.among w.known w.here, if_taken c f w.taken)

    -- each known record is one that is taken
    pub sources_taken : (f : Fact) → Contains sources.known f → IsTaken c f
    sources_taken f h = (known_wanted f h).taken

    -- the runs of the first pass are theirs
    pub sources_runs : (runs : List Run)
        → AreAllWanted (file_at octets paths) IsWanted (HasUnknown octets paths) runs → AreRunsIn sources runs
    sources_runs runs are =
        wanted_to (file_at octets paths) IsWanted (Contains sources.known) (HasUnknown octets paths)
        (sources.unknown ≡ true) wanted_known (has_unknown paths).1.1 known_wanted runs are

    -- what may be given of them may be given of the files
    pub sources_given : (given : List Fact)
        → AreGiven sources.files (Contains sources.known) (sources.unknown ≡ true) c given
        → AreGiven (file_at octets paths) IsWanted (HasUnknown octets paths) c given
    sources_given given are =
        given_to (file_at octets paths) (Contains sources.known) IsWanted (sources.unknown ≡ true)
        (HasUnknown octets paths) known_wanted (has_unknown paths).1.0 wanted_known c given are
