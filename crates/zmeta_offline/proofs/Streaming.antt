-- The records of saved files are written in two passes.
use Rattle.std.proofs.Common.{◌≡◌, ◌∙◌, ◌⊎◌, ◌↔◌, inl, inr, ⊎_elim, refl, sym, ap, subst, ℕ, Bool, true, false, List, [], ◌∷◌, ◌++◌, append_assoc, Option, None, Result, Ok, Err}
use Rattle.std.specs.Borrow.{Bor}
use Rattle.std.specs.Prelude.{Contains, Vec}
use Rattle.std.specs.Io.KnownBytes.{Appends}
use Rattle.std.proofs.KnownBytes.{Appends-trans}
use Rattle.zknow.specs.declared.fact.Fact.{Fact}
use Rattle.zknow.specs.Known.{HasFailure}
use Rattle.zknow.specs.Tables.DistinctLaws.{none_in_nil, in_cons}
use Rattle.zknow_forms.specs.declared.tally.Tally.{Tally}
use Rattle.zknow_records.specs.Records.{records_octets, left_out}
use Rattle.zknow_records.specs.declared.left_out.LeftOut.{LeftOut}
use Rattle.zknow_runs.specs.Rows.{Sources}
use Rattle.zknow_runs.specs.declared.rows.Taking.{Taking}
use Rattle.zknow_runs.specs.declared.run.Run.{Run}
use Rattle.zmeta_devices.specs.Devices.{Device, Outputs, HasGained, HasStopped, AreUnwritten, AfterTellLines}
use Rattle.zmeta_devices.specs.declared.fault.Fault.{Fault}
use Rattle.zmeta_devices.specs.declared.fault.Fault.TheVariants.{Read, Write, NotKnowledge, NotCanonical, NamesDiffer, NoCatalogue, NotOid, Memory}
use Rattle.zmeta_devices.specs.declared.fault.Status.{Status}
use Rattle.zmeta_devices.specs.declared.fault.Status.TheVariants as statuses
use Rattle.zmeta_offline.specs.Join.{IsFaultAt, IsRefusedAmong, IsKnownStatus}
use Rattle.zmeta_offline.specs.Join.IsRefusedAmong.{first, later}
use Rattle.zmeta_offline.specs.Marked.{AreSavedEach, AreMarked, ScanFilesResult}
use Rattle.zmeta_offline.specs.Records.{WantedRecords, IsChosenSyntax, SyntaxResult, PutRecordsResult, RecordsResult, left_text}
use Rattle.zmeta_offline.specs.Rows.{IsOfRuns, IsWritten, IsCutOff, IsStopped, WriteRowsResult}
use Rattle.zmeta_offline.specs.Streamed.{IsStatusOf, IsBrokenOff, StreamedResult}
use Rattle.zmeta_offline.specs.declared.scanned.Marked.{Marked}
use Rattle.zmeta_offline.specs.declared.scanned.Noting.TheVariants.{Failures}
use Rattle.zmeta_offline.proofs.Extracting.{files_refused}
use Rattle.zmeta_offline.proofs.Joining.{kept}
use Rattle.zmeta_offline.proofs.MarkedTheory.{marked_sources, of_marked_runs, IsTaking, IsMarkedExtract, front_extract, rows_extract}
use Rattle.zmeta_offline.proofs.SavedEach.{joined_each}

-- ---- devices

pub gained_more : (old mid new : Device) (text more : List ℕ) → HasGained old mid text → HasGained mid new more
    → HasGained old new (text ++ more)
gained_more old mid new text more a b = record {
  written = Appends-trans old.known mid.known new.known text more a.written b.written;
  path = b.path ∙ a.path;
  sound = b.sound ∙ a.sound;
  explains = b.explains ∙ a.explains;
}

pub gained_stopped : (old mid new : Device) (text more : List ℕ) → HasGained old mid text → HasStopped mid new more
    → HasStopped old new (text ++ more)
gained_stopped old mid new text more a b = record {
  written = record {
    front = text ++ b.written.front;
    rest = b.written.rest;
    cut = ap (λ z. text ++ z) b.written.cut ∙ sym (append_assoc text b.written.front b.written.rest);
    written = Appends-trans old.known mid.known new.known text b.written.front a.written b.written.written;
  };
  path = b.path ∙ a.path;
  failed = (subst (λ z. HasStopped (record mid { failures = z }) new more) a.sound b).failed;
  explains = b.explains ∙ a.explains;
}

-- what stopped in a front stopped in the whole
pub stopped_whole : (old new : Device) (text rest all : List ℕ) → all ≡ text ++ rest → HasStopped old new text
    → HasStopped old new all
stopped_whole old new text rest all cut s = record {
  written = record {
    front = s.written.front;
    rest = s.written.rest ++ rest;
    cut = cut ∙ ap (λ z. z ++ rest) s.written.cut ∙ append_assoc s.written.front s.written.rest rest;
    written = s.written.written;
  };
  path = s.path;
  failed = s.failed;
  explains = s.explains;
}

-- ---- a file among others is refused

split_at : {T : Type 0} (xs : List T) (x : T) → Contains xs x
    → (front : List T) × (rest : List T) × (xs ≡ front ++ x ∷ rest)
split_at [] x h = absurd (none_in_nil x h)
split_at (y ∷ ys) x h = ⊎_elim
    (λ same. ([], ys, ap (λ z. z ∷ ys) same))
    (λ more. let w = split_at ys x more in (y ∷ w.0, w.1, ap (λ z. y ∷ z) w.2))
    (in_cons y ys x h)

module _ (octets : List ℕ → Option (List ℕ)) (names : List (List ℕ)) where
  front_saved : (front rest : List (List ℕ)) (theirs : List (List Fact))
      → AreSavedEach octets names (front ++ rest) theirs
      → (mine : List (List Fact)) × AreSavedEach octets names front mine
  front_saved [] rest theirs saved = ([], tt)
  front_saved (p ∷ ps) rest [] saved = absurd saved
  front_saved (p ∷ ps) rest (fs ∷ theirs) saved =
      let w = front_saved ps rest theirs saved.3 in (fs ∷ w.0, (saved.0, saved.1, saved.2, w.1))

  refused_behind : (front rest : List (List ℕ)) (mine : List (List Fact)) → AreSavedEach octets names front mine
      → (path : List ℕ) (f : Fault) → IsFaultAt octets path f → IsRefusedAmong octets (front ++ path ∷ rest) f
  refused_behind [] rest mine saved path f fault = first path rest fault
  refused_behind (p ∷ ps) rest mine saved path f fault =
      let all = joined_each octets names p ps mine saved in later (p ∷ ps) names rest all.0 path all.1 fault

  pub refused_among : (paths : List (List ℕ)) (theirs : List (List Fact)) → AreSavedEach octets names paths theirs
      → (path : List ℕ) → Contains paths path → (f : Fault) → IsFaultAt octets path f → IsRefusedAmong octets paths f
  refused_among paths theirs saved path among f fault =
      let w = split_at paths path among in
      let mine = front_saved w.0 (path ∷ w.1) theirs (subst (λ z. AreSavedEach octets names z theirs) w.2 saved) in
      subst (λ z. IsRefusedAmong octets z f) (sym w.2) (refused_behind w.0 w.1 mine.0 mine.1 path f fault)

-- ---- the command

module _ (e : WantedRecords) (octets : List ℕ → Option (List ℕ)) (paths : List (List ℕ)) (before : Outputs) where
  none_written : AreUnwritten before before
  none_written = (kept before.output, refl)

  -- the text is no record syntax
  no_syntax : (f : Fault) → SyntaxResult e.syntax (Err f) → StreamedResult e octets paths before before (Err f)
  no_syntax (NotOid told) h = inl (h, none_written)
  no_syntax Memory h = inl none_written
  no_syntax f h = absurd h

  pub syntax_refused : (g f : Fault) (r : Result Status Fault) → r ≡ Err f → f ≡ g → SyntaxResult e.syntax (Err g)
      → StreamedResult e octets paths before before r
  syntax_refused g f r is of h = rw (is, of) (no_syntax g h)

  -- no memory was found before anything was written
  pub no_memory : (f : Fault) (r : Result Status Fault) → r ≡ Err f → f ≡ Memory
      → StreamedResult e octets paths before before r
  no_memory f r is of = rw (is, of) (inl none_written)

  -- a file, or a name, is refused in the first pass
  not_marked : (f : Fault) → ScanFilesResult octets paths e.only Failures (Err f)
      → StreamedResult e octets paths before before (Err f)
  not_marked (NoCatalogue told) h = inl (h, none_written)
  not_marked Memory h = inl none_written
  not_marked f h = inl (files_refused e octets paths before f f (Err f) refl refl h)

  pub scan_refused : (g f : Fault) (r : Result Status Fault) → r ≡ Err f → f ≡ g
      → ScanFilesResult octets paths e.only Failures (Err g) → StreamedResult e octets paths before before r
  scan_refused g f r is of h = rw (is, of) (not_marked g h)

module _ (e : WantedRecords) (octets : List ℕ → Option (List ℕ)) (path : List ℕ) (others : List (List ℕ))
    (before : Outputs) (m : Marked) (marked : AreMarked octets (path ∷ others) e.only Failures m)
    (oid : Option (List ℕ)) (syntax : IsChosenSyntax e.syntax oid) where
  abbrev result_of : Outputs → Result Status Fault → Type 0
  result_of after result = StreamedResult e octets (path ∷ others) before after result

  abbrev its : Sources
  its = marked_sources octets path others e.only Failures m marked

  -- all octets were written but the last, and this was left out
  pub record HasWritten (mid : Outputs) (last : List ℕ) (told : LeftOut) : Type 0 where
    pub text : List ℕ
    pub gained : HasGained before.output mid.output text
    pub facts : List Fact
    pub extract : IsMarkedExtract octets path others e Failures m marked oid syntax facts
    pub is : text ++ last ≡ records_octets oid e.conflicts facts
    pub left : told ≡ left_out oid e.conflicts facts

  module _ (mid : Outputs) (mid_same : mid.errors ≡ before.errors) (last : List ℕ) (told : LeftOut)
      (x : HasWritten mid last told) where
    -- no memory was found for the lines
    pub no_lines : (f : Fault) (r : Result Status Fault) → r ≡ Err f → f ≡ Memory → result_of mid r
    no_lines f r is_err of = rw (is_err, of) (inr (record {
      facts = x.facts;
      oid = oid;
      extract = x.extract.extract;
      output = record { front = x.text; rest = last; cut = sym x.is; gained = x.gained };
      errors = mid_same;
    }))

    -- the stream failed at the last octets
    not_put : (text lines : List ℕ) (after : Outputs) → text ≡ last → (f : Fault)
        → PutRecordsResult text lines mid after (Err f) → result_of after (Err f)
    not_put text lines after of (Write failed) h = inl (
      x.facts,
      oid,
      x.extract.extract,
      h.0 ∙ x.gained.path,
      subst (λ z. HasStopped before.output after.output z) (ap (λ z. x.text ++ z) of ∙ x.is)
          (gained_stopped before.output mid.output after.output x.text text x.gained h.1),
      h.2 ∙ mid_same,
    )
    not_put text lines after of f h = absurd h

    pub put_refused : (text lines : List ℕ) (after : Outputs) → text ≡ last → (g f : Fault)
        (r : Result Status Fault) → r ≡ Err f → f ≡ g → PutRecordsResult text lines mid after (Err g)
        → result_of after r
    put_refused text lines after of g f r is_err same h = rw (is_err, same) (not_put text lines after of g h)

    status_known : (b : Bool) → m.failed ≡ b → (status : Status) → IsStatusOf b status → IsKnownStatus x.facts status
    status_known true e status h = subst (IsKnownStatus x.facts) (sym h) (x.extract.failed.1 e)
    status_known false e status h =
        subst (IsKnownStatus x.facts) (sym h) (λ one. let no : m.failed ≡ true = x.extract.failed.0 one in absurd cc)

    pub streamed : (text lines : List ℕ) (after : Outputs) (status : Status) → text ≡ last
        → lines ≡ left_text told → IsStatusOf m.failed status → PutRecordsResult text lines mid after (Ok tt)
        → result_of after (Ok status)
    streamed text lines after status of put state h = inl (
      x.facts,
      oid,
      x.extract.extract,
      status_known m.failed refl status state,
      subst (λ z. HasGained before.output after.output z) (ap (λ z. x.text ++ z) of ∙ x.is)
          (gained_more before.output mid.output after.output x.text text x.gained h.0),
      subst (λ z. AfterTellLines before.errors after.errors z) (put ∙ ap left_text x.left)
          (subst (λ z. AfterTellLines z after.errors lines) mid_same h.1),
    )

  module _ (t : Taking) (taken : IsTaking octets path others e Failures m marked oid syntax t)
      (paths : List (List ℕ)) (runs : List Run) (same_paths : paths ≡ path ∷ others)
      (same_runs : runs ≡ m.runs.items) where
    -- what is so of all sources is so of these
    of_runs : (P : Sources → Type 0) → IsOfRuns octets paths runs t.chosen.now P → P its
    of_runs P h =
        of_marked_runs octets path others e.only Failures m marked paths runs t.chosen.now same_paths same_runs
        taken.chosen P h

    -- a front of the records was written
    late : (after : Outputs) → after.errors ≡ before.errors → IsCutOff t before.output after.output its
        → IsBrokenOff e octets (path ∷ others) before after
    late after same cut =
        let x = front_extract octets path others e Failures m marked oid syntax t taken cut.text cut.is in record {
          facts = x.0;
          oid = oid;
          extract = x.2.extract;
          output = record { front = cut.text; rest = x.1; cut = x.3; gained = cut.gained };
          errors = same;
        }

    -- the stream failed
    stopped : (after : Outputs) (to : Bor (List ℕ)) → after.errors ≡ before.errors → to.now ≡ before.output.path
        → IsStopped t before.output after.output its → result_of after (Err (Write to))
    stopped after to same named s =
        let x = front_extract octets path others e Failures m marked oid syntax t taken s.text s.is in
        inl (
          x.0,
          oid,
          x.2.extract,
          named,
          stopped_whole before.output after.output s.text x.1 (records_octets oid e.conflicts x.0) x.3 s.stopped,
          same,
        )

    not_written : (A : Type 0) (after : Outputs) → after.errors ≡ before.errors → (f : Fault)
        → WriteRowsResult octets paths runs {A = A} t before.output after.output (Err f)
        → result_of after (Err f)
    not_written A after same (Read failed) h = inr (
      refused_among octets m.names (path ∷ others) marked.theirs marked.saved failed.now
          (subst (λ (z : List (List ℕ)). Contains z failed.now) same_paths h.0.0) (Read failed)
          (refl, of_runs (λ s. octets failed.now ≡ None) h.0.1),
      late after same (of_runs (IsCutOff t before.output after.output) h.1),
    )
    not_written A after same (Write failed) h =
        stopped after failed same h.0 (of_runs (IsStopped t before.output after.output) h.1)
    not_written A after same Memory (inl none) = inl (none, same)
    not_written A after same Memory (inr cut) =
        inr (late after same (of_runs (IsCutOff t before.output after.output) cut))
    not_written A after same f h = absurd h

    rows_refused : {A : Type 0} (after : Outputs) → after.errors ≡ before.errors
        → (w : Result (Vec ℕ A × Tally) Fault)
        → WriteRowsResult octets paths runs t before.output after.output w → (g f : Fault)
        (r : Result Status Fault) → w ≡ Err g → r ≡ Err f → f ≡ g → result_of after r
    rows_refused {A = A} after same w h g f r was is of = rw (is, of) (not_written A after same g
        (subst (λ z. WriteRowsResult octets paths runs t before.output after.output z) was h))

    written : {A : Type 0} (mid : Outputs) (last : Vec ℕ A) (told : Tally)
        → WriteRowsResult octets paths runs t before.output mid.output (Ok (last, told))
        → HasWritten mid last.items told.left
    written mid last told h =
        let is : IsWritten t before.output mid.output last.items told its =
        of_runs (IsWritten t before.output mid.output last.items told) h in
        let x =
        rows_extract octets path others e Failures m marked oid syntax t taken (is.text ++ last.items) told is.is in
        record { text = is.text; gained = is.gained; facts = x.0; extract = x.1; is = x.2; left = x.3 }

  -- the same, where what is taken is known by what was written
  module _ (paths : List (List ℕ)) (runs : List Run) (same_paths : paths ≡ path ∷ others)
      (same_runs : runs ≡ m.runs.items) where
    pub records_refused : {A : Type 0} (after : Outputs) → after.errors ≡ before.errors
        → (w : Result (Vec ℕ A × Tally) Fault) (t : Taking)
        → WriteRowsResult octets paths runs t before.output after.output w
        → IsTaking octets path others e Failures m marked oid syntax t → (g f : Fault) (r : Result Status Fault)
        → w ≡ Err g → r ≡ Err f → f ≡ g → result_of after r
    records_refused after same w t h taken g f r was is of =
        rows_refused t taken paths runs same_paths same_runs after same w h g f r was is of

    pub records_written : {A : Type 0} (mid : Outputs) (last : Vec ℕ A) (told : Tally) (t : Taking)
        → WriteRowsResult octets paths runs t before.output mid.output (Ok (last, told))
        → IsTaking octets path others e Failures m marked oid syntax t → HasWritten mid last.items told.left
    records_written mid last told t h taken =
        written t taken paths runs same_paths same_runs mid last told h
