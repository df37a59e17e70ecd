-- What is noted of the facts of saved files.
use Rattle.std.proofs.Common.{◌≡◌, ◌⊎◌, ◌↔◌, ◌∙◌, inl, inr, ⊎_elim, refl, sym, ap, subst, arith, ℕ, zero, suc, ◌+◌, ◌<◌, ◌≤◌, ◌==◌, Bool, true, false, cond, ◌||◌, List, [], ◌∷◌, ◌++◌, length, map, take, get_or, slice_get, append_assoc, append-nil, Option, None, Contains}
use Rattle.std.specs.Prelude.{slice_index_or, Result, Ok, Err, OnOk}
use Rattle.std.specs.Borrow.{Bor}
use Rattle.std.specs.List.{list_any}
use Rattle.std.proofs.lemmas.Bool.Decides.{nat_tests}
use Rattle.std.proofs.lemmas.List.{take_more, take_all, map-append}
use Rattle.std.proofs.lemmas.List.Folds.{list_any-append}
use Rattle.zknow.specs.declared.fact.Fact.{Fact}
use Rattle.zknow.specs.declared.fact.Fact.TheVariants.{Count, Failed, Seen, Diag}
use Rattle.zknow.specs.Facts.{fact_kind, fact_target, fact_number}
use Rattle.zknow.specs.List.Listing.{row_key_of}
use Rattle.zknow.specs.Saved.Saved.{saved}
use Rattle.zknow.specs.Tables.DistinctLaws.{none_in_nil, in_cons, in_head, in_tail}
use Rattle.zknow_merge.specs.Scans.{kind_number, IsPlaceOf}
use Rattle.zknow_merge.specs.declared.scan.FactKind.{FactKind}
use Rattle.zknow_merge.specs.declared.scan.FactKind.TheVariants as kinds
use Rattle.zknow_merge.specs.declared.scan.FactPlace.{FactPlace}
use Rattle.zknow_runs.specs.Placed.{runs_at, placed, all_placed}
use Rattle.zknow_runs.specs.Rows.{place_of, is_taken}
use Rattle.zknow_runs.specs.Runs.{HoldsRuns}
use Rattle.zknow_runs.specs.declared.rows.Chosen.{Chosen}
use Rattle.zknow_runs.specs.declared.run.Run.{Run}
use Rattle.zknow_runs.specs.declared.run.RunList.{RunList}
use Rattle.zknow_runs.proofs.PlacedTheory.{placed_more, all_placed_more}
use Rattle.zmeta_args.specs.Texts.{texts_of}
use Rattle.zmeta_offline.specs.Catalogues.{is_chosen}
use Rattle.zmeta_offline.specs.Marked.{AreChosen, AreNoted, AreOthersOf, HasChosenFailure}
use Rattle.zmeta_offline.specs.Names.{is_picked}
use Rattle.zmeta_offline.specs.Scanned.{is_failure, has_failure, AreMarks, HasAdded}
use Rattle.zmeta_offline.specs.declared.scanned.First.{First}
use Rattle.zmeta_offline.specs.declared.scanned.Marks.{Marks}
use Rattle.zmeta_offline.proofs.NotingOthers.{none_noted, file_noted, others_same, others_more}

-- ---- whose records are taken

none_chosen : (only : List (Bor (List ℕ))) → (length only == 0) ≡ is_chosen (texts_of only) None
none_chosen [] = refl
none_chosen (o ∷ only) = by (length (o ∷ only) == 0) refl
  where
    by : (b : Bool) → (length (o ∷ only) == 0) ≡ b → b ≡ false
    by true q = let none : length (o ∷ only) ≡ 0 = grind (arith, nat_tests) in absurd (omega (arith, none))
    by false q = refl

taken_by : (only names : List (List ℕ)) (others : Bool) → others ≡ is_chosen only None → (target : ℕ)
    → slice_index_or (map (is_picked only) names) target others ≡ is_chosen only (slice_get names target)
taken_by only [] others e target = e
taken_by only (n ∷ names) others e zero = refl
taken_by only (n ∷ names) others e (suc target) = taken_by only names others e target

-- one name more
pub taken_more : (only names : List (List ℕ)) (i : ℕ) (name : List ℕ) (old new : List Bool) (b : Bool)
    → i < length names → name ≡ get_or names i name → old ≡ map (is_picked only) (take i names) → new ≡ old ++ b ∷ []
    → b ≡ is_picked only name → new ≡ map (is_picked only) (take (i + 1) names)
taken_more only names i name old new b lt at is put by =
    let to : take (i + 1) names ≡ take i names ++ name ∷ [] =
    take_more names i name lt ∙ ap (λ (n : List ℕ). take i names ++ n ∷ []) (sym at) in
    put ∙ ap (λ (l : List Bool). l ++ b ∷ []) is
    ∙ ap (λ (x : Bool). map (is_picked only) (take i names) ++ x ∷ []) by
    ∙ sym (ap (map (is_picked only)) to ∙ map-append (is_picked only) (take i names) (name ∷ []))

-- all names
pub taken_all : (only : List (Bor (List ℕ))) (names : List (List ℕ)) (i : ℕ) (targets : List Bool) (others : Bool)
    → length names ≤ i → targets ≡ map (is_picked (texts_of only)) (take i names) → others ≡ (length only == 0)
    → (target : ℕ) → slice_index_or targets target others ≡ is_chosen (texts_of only) (slice_get names target)
taken_all only names i targets others end is none target =
    let all : targets ≡ map (is_picked (texts_of only)) names =
    is ∙ ap (map (is_picked (texts_of only))) (take_all i names end) in
    ap (λ (l : List Bool). slice_index_or l target others) all
    ∙ taken_by (texts_of only) names others (none ∙ none_chosen only) target

-- ---- one fact

-- the kind of a fact
abbrev pub kind_of : Fact → FactKind
kind_of (Count t s n) = kinds.Count
kind_of (Failed t s) = kinds.Failed
kind_of (Seen t s p r) = kinds.Record
kind_of (Diag t s p d) = kinds.Diagnostic

kind_is : (kind : FactKind) (f : Fact) → kind_number kind ≡ fact_kind f → kind ≡ kind_of f
kind_is kinds.Count (Count t s n) q = refl
kind_is kinds.Count (Failed t s) q = absurd (omega (arith, q))
kind_is kinds.Count (Seen t s p r) q = absurd (omega (arith, q))
kind_is kinds.Count (Diag t s p d) q = absurd (omega (arith, q))
kind_is kinds.Failed (Count t s n) q = absurd (omega (arith, q))
kind_is kinds.Failed (Failed t s) q = refl
kind_is kinds.Failed (Seen t s p r) q = absurd (omega (arith, q))
kind_is kinds.Failed (Diag t s p d) q = absurd (omega (arith, q))
kind_is kinds.Record (Count t s n) q = absurd (omega (arith, q))
kind_is kinds.Record (Failed t s) q = absurd (omega (arith, q))
kind_is kinds.Record (Seen t s p r) q = refl
kind_is kinds.Record (Diag t s p d) q = absurd (omega (arith, q))
kind_is kinds.Diagnostic (Count t s n) q = absurd (omega (arith, q))
kind_is kinds.Diagnostic (Failed t s) q = absurd (omega (arith, q))
kind_is kinds.Diagnostic (Seen t s p r) q = absurd (omega (arith, q))
kind_is kinds.Diagnostic (Diag t s p d) q = refl

-- the run of a record that stands here
abbrev pub place_run : ℕ → FactPlace → Run
place_run file p = record { position = p.number; file = file; begin = p.begin; end = p.end }

-- the run of a fact of this kind
abbrev pub kind_runs : FactKind → Run → List Run
kind_runs kinds.Count r = []
kind_runs kinds.Failed r = []
kind_runs kinds.Record r = r ∷ []
kind_runs kinds.Diagnostic r = []

-- whether the kind is that of failures
abbrev pub fails : FactKind → Bool
fails kinds.Count = false
fails kinds.Failed = true
fails kinds.Record = false
fails kinds.Diagnostic = false

-- what is noted, by the kind and whether records of the target are taken
abbrev pub runs_noted : Bool → FactKind → Run → List Run
runs_noted true kind r = kind_runs kind r
runs_noted false kind r = []

abbrev pub failure_noted : Bool → FactKind → Bool
failure_noted true kind = fails kind
failure_noted false kind = false

if_none : (b : Bool) (kind : FactKind) (r : Run) → kind_runs kind r ≡ [] → runs_noted b kind r ≡ []
if_none true kind r e = e
if_none false kind r e = refl

if_one : (b : Bool) (r : Run) → runs_noted b kinds.Record r ≡ cond b (r ∷ []) []
if_one true r = refl
if_one false r = refl

not_failed : (b : Bool) (kind : FactKind) → fails kind ≡ false → failure_noted b kind ≡ false
not_failed true kind e = e
not_failed false kind e = refl

has_failed : (b : Bool) → failure_noted b kinds.Failed ≡ b
has_failed true = refl
has_failed false = refl

module _ (c : Chosen) (own : List (List ℕ)) (k : ℕ) (facts : List Fact) where
  -- the run of a fact, by its place
  abbrev pub fact_run : Fact → Run
  fact_run f = record {
    position = fact_number f;
    file = k;
    begin = length (saved own facts);
    end = length (saved own (facts ++ f ∷ []));
  }

  runs_of : (f : Fact) → runs_noted (is_taken c (fact_target f)) (kind_of f) (fact_run f)
      ≡ runs_at c own k facts f (place_of f)
  runs_of (Count t s n) = if_none (is_taken c t) kinds.Count (fact_run (Count t s n)) refl
  runs_of (Failed t s) = if_none (is_taken c t) kinds.Failed (fact_run (Failed t s)) refl
  runs_of (Seen t s p r) = if_one (is_taken c t) (fact_run (Seen t s p r))
  runs_of (Diag t s p d) = if_none (is_taken c t) kinds.Diagnostic (fact_run (Diag t s p d)) refl

  failure_of : (f : Fact) → failure_noted (is_taken c (fact_target f)) (kind_of f) ≡ is_failure c f
  failure_of (Count t s n) = not_failed (is_taken c t) kinds.Count refl
  failure_of (Failed t s) = has_failed (is_taken c t)
  failure_of (Seen t s p r) = not_failed (is_taken c t) kinds.Record refl
  failure_of (Diag t s p d) = not_failed (is_taken c t) kinds.Diagnostic refl

  module _ (f : Fact) (p : FactPlace) (is : IsPlaceOf own facts f p) where
    kind : p.kind ≡ kind_of f
    kind = kind_is p.kind f is.fact.kind

    run : place_run k p ≡ fact_run f
    run = rw (is.fact.number, is.begin, is.end) refl

    pub noted_runs : runs_noted (is_taken c p.target) p.kind (place_run k p) ≡ runs_at c own k facts f (place_of f)
    noted_runs =
        ap (λ (t : ℕ). runs_noted (is_taken c t) p.kind (place_run k p)) is.fact.target
        ∙ ap (λ (x : FactKind). runs_noted (is_taken c (fact_target f)) x (place_run k p)) kind
        ∙ ap (λ (x : Run). runs_noted (is_taken c (fact_target f)) (kind_of f) x) run
        ∙ runs_of f

    pub noted_failure : failure_noted (is_taken c p.target) p.kind ≡ is_failure c f
    noted_failure =
        ap (λ (t : ℕ). failure_noted (is_taken c t) p.kind) is.fact.target
        ∙ ap (λ (x : FactKind). failure_noted (is_taken c (fact_target f)) x) kind
        ∙ failure_of f

-- nothing is noted of these kinds
pub quiet_runs : (kind : FactKind) (r : Run) → (kind ≡ kinds.Count) ⊎ (kind ≡ kinds.Diagnostic) → kind_runs kind r ≡ []
quiet_runs kind r (inl is) = ap (λ (x : FactKind). kind_runs x r) is
quiet_runs kind r (inr is) = ap (λ (x : FactKind). kind_runs x r) is

pub quiet_failure : (kind : FactKind) → (kind ≡ kinds.Count) ⊎ (kind ≡ kinds.Diagnostic) → fails kind ≡ false
quiet_failure kind (inl is) = ap fails is
quiet_failure kind (inr is) = ap fails is

-- whether there is a row, by the kind
failed_row : (f : Fact) → kind_of f ≡ kinds.Failed → row_key_of f ≡ None
failed_row (Count t s n) is = refl
failed_row (Failed t s) is = refl
failed_row (Seen t s p r) is = absurd (Prim.cc is)
failed_row (Diag t s p d) is = refl

quiet_row : (f : Fact) (kind : FactKind) → kind ≡ kind_of f → (kind ≡ kinds.Count) ⊎ (kind ≡ kinds.Diagnostic)
    → row_key_of f ≡ None
quiet_row (Count t s n) kind is quiet = refl
quiet_row (Failed t s) kind is quiet = refl
quiet_row (Seen t s p r) kind is (inl count) = absurd (Prim.cc (sym is ∙ count))
quiet_row (Seen t s p r) kind is (inr diag) = absurd (Prim.cc (sym is ∙ diag))
quiet_row (Diag t s p d) kind is quiet = refl

record_row : (f : Fact) → kind_of f ≡ kinds.Record → row_key_of f ≡ None → ⊥
record_row (Count t s n) is none = absurd (Prim.cc is)
record_row (Failed t s) is none = absurd (Prim.cc is)
record_row (Seen t s p r) is none = absurd (Prim.cc none)
record_row (Diag t s p d) is none = absurd (Prim.cc is)

pub on_ok : {A E : Type 0} (r : Result A E) (P Q : Type 0) → (P → Q) → OnOk r P → OnOk r Q
on_ok (Ok a) P Q f h = f h
on_ok (Err e) P Q f h = tt

-- ---- the facts of files

or_assoc : (a b d : Bool) → ((a || b) || d) ≡ (a || (b || d))
or_assoc true b d = refl
or_assoc false b d = refl

or_false : (a : Bool) → (a || false) ≡ a
or_false true = refl
or_false false = refl

or_true : (a : Bool) → (a || true) ≡ true
or_true true = refl
or_true false = refl

any_more : {X : Type 0} (p : X → Bool) (xs : List X) (x : X) → list_any p (xs ++ x ∷ []) ≡ (list_any p xs || p x)
any_more p xs x = list_any-append p xs (x ∷ []) ∙ ap (λ (b : Bool). list_any p xs || b) (or_false (p x))

-- nothing was noted yet
pub marks_new : (first : First) (own : List (List ℕ)) (m : Marks) → HoldsRuns [] m.runs → m.failed ≡ false
    → m.others ≡ [] → AreMarks first [] own [] m
marks_new first own m none calm empty =
    record { runs = none; failed = calm; others = λ noted. none_noted first.chosen m.others empty }

module _ (first : First) (theirs : List (List Fact)) where
  -- nothing was noted of a further file
  pub marks_begun : (own : List (List ℕ)) (m : Marks) → AreMarks first theirs first.names [] m
      → AreMarks first theirs own [] m
  marks_begun own m h = record { runs = h.runs; failed = h.failed; others = h.others }

  -- one fact more was noted
  module _ (own : List (List ℕ)) (facts : List Fact) (f : Fact) (k : ℕ) (p : FactPlace) (count : k ≡ length theirs)
      (is : IsPlaceOf own facts f p) where
    marks_more : (taken : Bool) (old new : Marks) → taken ≡ is_taken first.chosen p.target
        → ((records : List Run) → HoldsRuns records old.runs
        → HoldsRuns (records ++ runs_noted taken p.kind (place_run k p)) new.runs)
        → new.failed ≡ (old.failed || failure_noted taken p.kind)
        → (AreOthersOf first.chosen (facts ∷ theirs) old.others → AreNoted first.noting
        → AreOthersOf first.chosen ((facts ++ f ∷ []) ∷ theirs) new.others)
        → AreMarks first theirs own facts old → AreMarks first theirs own (facts ++ f ∷ []) new
    marks_more taken old new by put failed added h =
        let c : Chosen = first.chosen in
        let before : List Run = all_placed c first.names 0 theirs in
        let there : List Run = placed c own (length theirs) [] facts in
        let noted : List Run = runs_noted taken p.kind (place_run k p) in
        let same : noted ≡ runs_at c own (length theirs) facts f (place_of f) =
        ap (λ (b : Bool). runs_noted b p.kind (place_run k p)) by
        ∙ ap (λ (n : ℕ). runs_noted (is_taken c p.target) p.kind (place_run n p)) count
        ∙ noted_runs c own (length theirs) facts f p is in
        let lined : (before ++ there) ++ noted ≡ before ++ placed c own (length theirs) [] (facts ++ f ∷ []) =
        append_assoc before there noted
        ∙ ap (λ (rs : List Run). before ++ (there ++ rs)) same
        ∙ ap (λ (rs : List Run). before ++ rs) (sym (placed_more c own (length theirs) [] facts f)) in
        let one : failure_noted taken p.kind ≡ is_failure c f =
        ap (λ (b : Bool). failure_noted b p.kind) by ∙ noted_failure c own k facts f p is in
        record {
          runs = subst (λ (rs : List Run). HoldsRuns rs new.runs) lined (put (before ++ there) h.runs);
          failed = failed
              ∙ ap (λ (b : Bool). b || failure_noted taken p.kind) h.failed
              ∙ ap (λ (b : Bool). (list_any (has_failure c) theirs || has_failure c facts) || b) one
              ∙ or_assoc (list_any (has_failure c) theirs) (has_failure c facts) (is_failure c f)
              ∙ ap (λ (b : Bool). list_any (has_failure c) theirs || b) (sym (any_more (is_failure c) facts f));
          others = λ noted. added (h.others noted) noted;
        }

    -- no run was noted
    no_run : (taken : Bool) (old new : RunList) → runs_noted taken p.kind (place_run k p) ≡ [] → new ≡ old
        → (records : List Run) → HoldsRuns records old
        → HoldsRuns (records ++ runs_noted taken p.kind (place_run k p)) new
    no_run taken old new none same records holds =
        subst (λ (l : RunList). HoldsRuns (records ++ runs_noted taken p.kind (place_run k p)) l) (sym same)
        (subst (λ (rs : List Run). HoldsRuns rs old)
        (sym (ap (λ (rs : List Run). records ++ rs) none ∙ append-nil records)) holds)

    -- it is one of a catalogue that is not chosen
    pub marks_same : (m : Marks) → false ≡ is_taken first.chosen p.target
        → AreMarks first theirs own facts m → AreMarks first theirs own (facts ++ f ∷ []) m
    marks_same m by h =
        marks_more false m m by (no_run false m.runs m.runs refl refl) (sym (or_false m.failed))
        (λ others noted. others_same first.chosen theirs facts f m.others
        (λ row taken. absurd (Prim.cc (by ∙ ap (is_taken first.chosen) is.fact.target ∙ taken))) others) h

    module _ (by : true ≡ is_taken first.chosen p.target) where
      its_taken : is_taken first.chosen (fact_target f) ≡ true
      its_taken = sym (by ∙ ap (is_taken first.chosen) is.fact.target)

      -- it was added to the facts that are no records
      added_one : (old new : List Fact) → (row_key_of f ≡ None) → (AreNoted first.noting → HasAdded f old new)
          → AreOthersOf first.chosen (facts ∷ theirs) old → AreNoted first.noting
          → AreOthersOf first.chosen ((facts ++ f ∷ []) ∷ theirs) new
      added_one old new row added others noted =
          others_more first.chosen theirs facts f old new row its_taken (added noted) others

      -- it is a count or a diagnostic
      pub marks_quiet : (old new : Marks) → (p.kind ≡ kinds.Count) ⊎ (p.kind ≡ kinds.Diagnostic)
          → new.runs ≡ old.runs → new.failed ≡ old.failed
          → (AreNoted first.noting → HasAdded f old.others new.others)
          → AreMarks first theirs own facts old → AreMarks first theirs own (facts ++ f ∷ []) new
      marks_quiet old new quiet same calm added h =
          marks_more true old new by
          (no_run true old.runs new.runs (quiet_runs p.kind (place_run k p) quiet) same)
          (calm ∙ sym (ap (λ (b : Bool). old.failed || b) (quiet_failure p.kind quiet) ∙ or_false old.failed))
          (added_one old.others new.others (quiet_row f p.kind (kind_is p.kind f is.fact.kind) quiet) added) h

      -- it is a failure
      pub marks_failed : (old new : Marks) → p.kind ≡ kinds.Failed → new.runs ≡ old.runs → new.failed ≡ true
          → (AreNoted first.noting → HasAdded f old.others new.others)
          → AreMarks first theirs own facts old → AreMarks first theirs own (facts ++ f ∷ []) new
      marks_failed old new kind same failed added h =
          marks_more true old new by
          (no_run true old.runs new.runs (ap (λ (x : FactKind). kind_runs x (place_run k p)) kind) same)
          (failed ∙ sym (ap (λ (b : Bool). old.failed || b) (ap fails kind) ∙ or_true old.failed))
          (added_one old.others new.others (failed_row f (sym (kind_is p.kind f is.fact.kind) ∙ kind)) added) h

      -- it is a record
      pub marks_record : (old new : Marks) → p.kind ≡ kinds.Record
          → ((records : List Run) → HoldsRuns records old.runs → HoldsRuns (records ++ place_run k p ∷ []) new.runs)
          → new.failed ≡ old.failed → new.others ≡ old.others
          → AreMarks first theirs own facts old → AreMarks first theirs own (facts ++ f ∷ []) new
      marks_record old new kind put same kept h =
          let one : kind_runs p.kind (place_run k p) ≡ place_run k p ∷ [] =
          ap (λ (x : FactKind). kind_runs x (place_run k p)) kind in
          let calm : fails p.kind ≡ false = ap fails kind in
          marks_more true old new by
          (λ records holds. subst (λ (rs : List Run). HoldsRuns (records ++ rs) new.runs) (sym one)
          (put records holds))
          (same ∙ sym (ap (λ (b : Bool). old.failed || b) calm ∙ or_false old.failed))
          (λ others noted. subst (AreOthersOf first.chosen ((facts ++ f ∷ []) ∷ theirs)) (sym kept)
          (others_same first.chosen theirs facts f old.others
          (λ row taken. record_row f (sym (kind_is p.kind f is.fact.kind) ∙ kind) row) others)) h

  -- all facts of a file with the same names were noted
  pub marks_all : (facts : List Fact) (m : Marks) → AreMarks first theirs first.names facts m
      → AreMarks first (theirs ++ facts ∷ []) first.names [] m
  marks_all facts m h =
      let c : Chosen = first.chosen in
      let all : List Run = all_placed c first.names 0 (theirs ++ facts ∷ []) in
      let before : List Run = all_placed c first.names 0 theirs in
      let count : length theirs ≡ 0 + length theirs = omega arith in
      record {
        runs = subst (λ (rs : List Run). HoldsRuns rs m.runs)
            (ap (λ (n : ℕ). before ++ placed c first.names n [] facts) count
            ∙ sym (all_placed_more c first.names 0 theirs facts) ∙ sym (append-nil all)) h.runs;
        failed = h.failed ∙ sym (any_more (has_failure c) theirs facts)
            ∙ sym (or_false (list_any (has_failure c) (theirs ++ facts ∷ [])));
        others = λ noted. file_noted c theirs facts m.others (h.others noted);
      }

-- ---- failures

module _ (c : Chosen) where
  failure_fact : (f : Fact) → is_failure c f ≡ true
      → (target : ℕ) × (set : ℕ) × (f ≡ Failed target set) × (is_taken c target ≡ true)
  failure_fact (Count t s n) is = absurd (Prim.cc is)
  failure_fact (Failed t s) is = (t, s, refl, is)
  failure_fact (Seen t s p r) is = absurd (Prim.cc is)
  failure_fact (Diag t s p d) is = absurd (Prim.cc is)

-- one passes the test
pub passes : {X : Type 0} (p : X → Bool) (xs : List X) → list_any p xs ≡ true → (x : X) × Contains xs x × (p x ≡ true)
passes p [] is = absurd (Prim.cc is)
passes {X} p (x ∷ xs) is = by (p x) refl (λ among. passes p xs among)
  where
    by : (b : Bool) → p x ≡ b
        → (list_any p xs ≡ true → (y : X) × Contains xs y × (p y ≡ true))
        → (y : X) × Contains (x ∷ xs) y × (p y ≡ true)
    by true q later = (x, in_head x xs, q)
    by false q later =
        let it = later (subst (λ (b : Bool). (b || list_any p xs) ≡ true) q is) in
        (it.0, in_tail x xs it.0 it.1, it.2)

pub does_pass : {X : Type 0} (p : X → Bool) (xs : List X) (x : X) → Contains xs x → p x ≡ true → list_any p xs ≡ true
does_pass p [] x h is = absurd (none_in_nil x h)
does_pass p (y ∷ xs) x h is = ⊎_elim
    (λ same. subst (λ (b : Bool). (b || list_any p xs) ≡ true) (sym (ap p same ∙ is)) refl)
    (λ later. subst (λ (b : Bool). (p y || b) ≡ true) (sym (does_pass p xs x later is)) (or_true (p y)))
    (in_cons y xs x h)

-- whether a failure was noted tells whether a file has one
pub failed_is : (octets : List ℕ → Option (List ℕ)) (paths only names : List (List ℕ)) (theirs : List (List Fact))
    (c : Chosen) (failed : Bool) → AreChosen only names c → failed ≡ (list_any (has_failure c) theirs || false)
    → (failed ≡ true) ↔ HasChosenFailure octets paths only names theirs
failed_is octets paths only names theirs c failed chosen is = (some, noted)
  where
    some : failed ≡ true → HasChosenFailure octets paths only names theirs
    some so =
        let file = passes (has_failure c) theirs (sym (is ∙ or_false (list_any (has_failure c) theirs)) ∙ so) in
        let fact = passes (is_failure c) file.0 file.2 in
        let it = failure_fact c fact.0 fact.2 in
        record {
          facts = file.0;
          among = file.1;
          target = it.0;
          set = it.1;
          here = subst (λ (f : Fact). Contains file.0 f) it.2 fact.1;
          chosen = sym (chosen it.0) ∙ it.3;
        }

    noted : HasChosenFailure octets paths only names theirs → failed ≡ true
    noted h =
        let taken : is_failure c (Failed h.target h.set) ≡ true = chosen h.target ∙ h.chosen in
        is ∙ or_false (list_any (has_failure c) theirs)
        ∙ does_pass (has_failure c) theirs h.facts h.among
        (does_pass (is_failure c) h.facts (Failed h.target h.set) h.here taken)
