-- The facts of saved files are printed in several passes.
use Rattle.std.proofs.Common.{◌≡◌, ◌∙◌, ◌⊎◌, ◌↔◌, inl, inr, ⊎_elim, refl, sym, ap, subst, ℕ, zero, suc, Bool, true, false, List, [], ◌∷◌, ◌++◌, Option, Some, None, IfSome, Result, Ok, Err}
use Rattle.std.specs.Borrow.{Bor}
use Rattle.std.specs.Prelude.{Contains, Vec, slice_get}
use Rattle.zknow.specs.declared.fact.Fact.{Fact}
use Rattle.zknow.specs.Known.{HasFailure}
use Rattle.zknow.specs.Tables.DistinctLaws.{in_head}
use Rattle.zknow_forms.specs.Forms.{form_text, head_text, whole_text, IsAsTold, AllFormLaws}
use Rattle.zknow_forms.specs.declared.form.Form.{Form}
use Rattle.zknow_forms.specs.declared.tally.Tally.{Tally}
use Rattle.zknow_runs.specs.RowLaws.{AreRowsFrontOf}
use Rattle.zknow_runs.specs.Rows.{Sources}
use Rattle.zknow_runs.specs.declared.rows.Chosen.{Chosen}
use Rattle.zknow_runs.specs.declared.rows.Taking.{Taking}
use Rattle.zknow_runs.specs.declared.run.Run.{Run}
use Rattle.zknow_titles.specs.Parts.{AllTitlePartLaws}
use Rattle.zmeta_args.specs.declared.arguments.View.{View}
use Rattle.zmeta_devices.specs.Devices.{Device, HasGained, HasStopped, PutFailure}
use Rattle.zmeta_devices.specs.declared.fault.Fault.{Fault}
use Rattle.zmeta_devices.specs.declared.fault.Fault.TheVariants.{Read, Write, NoCatalogue, Memory}
use Rattle.zmeta_devices.specs.declared.fault.Status.{Status}
use Rattle.zmeta_offline.specs.Join.{AreJoined, IsRefusedAmong, IsKnownStatus, IsListOf, PutListResult}
use Rattle.zmeta_offline.specs.Joined.{parted, IsFormOf, IsMeasuredForm, IsMismeasured, IsOtherView, IsListOrSo, IsListBrokenOff, StreamedJoinResult}
use Rattle.zmeta_offline.specs.Marked.{AreMarked, ScanFilesResult}
use Rattle.zmeta_offline.specs.Rows.{AreGivenOf, IsMissedRead, IsWritten, IsCutOff, IsStopped, IsOfRuns, WriteRowsResult}
use Rattle.zmeta_offline.specs.Streamed.{IsStatusOf}
use Rattle.zmeta_offline.specs.Views.{printed}
use Rattle.zmeta_offline.specs.declared.joined.PartedView.{PartedView}
use Rattle.zmeta_offline.specs.declared.joined.PartedView.TheVariants as parts
use Rattle.zmeta_offline.specs.declared.scanned.Marked.{Marked}
use Rattle.zmeta_offline.specs.declared.scanned.Noting.TheVariants.{Others}
use Rattle.zmeta_offline.proofs.FormJoined.{DoesFit, IsInColumns, shape_printed, told_fit, all_fit, shape_fits}
use Rattle.zmeta_offline.proofs.GivenJoined.{others_are}
use Rattle.zmeta_offline.proofs.Joining.{kept, join_refused}
use Rattle.zmeta_offline.proofs.MarkedSources.{has_unknown}
use Rattle.zmeta_offline.proofs.MarkedTheory.{marked_sources, of_marked_runs, IsMarkedGiven, given_by, has_failed}
use Rattle.zmeta_offline.proofs.Streaming.{gained_more, gained_stopped, stopped_whole, refused_among}

-- ---- a file is refused in the first pass

none_at : (at : ℕ) (name : List ℕ) → slice_get [] at ≡ Some name → ⊥
none_at zero name stands = cc
none_at (suc at) name stands = cc

module _ (view : View) (octets : List ℕ → Option (List ℕ)) (paths : List (List ℕ)) (old : Device) where
  not_marked : (f : Fault) → ScanFilesResult octets paths [] Others (Err f)
      → StreamedJoinResult view octets paths old old (Err f)
  not_marked (NoCatalogue name) h = absurd (none_at h.3.at name.now h.3.stands)
  not_marked Memory h = inl (kept old)
  not_marked f h = inl (join_refused view octets paths old f f (Err f) refl refl h)

  pub scan_refused : (g f : Fault) (r : Result Status Fault) → r ≡ Err f → f ≡ g
      → ScanFilesResult octets paths [] Others (Err g) → StreamedJoinResult view octets paths old old r
  scan_refused g f r is of h = rw (is, of) (not_marked g h)

-- ---- behind the first pass

module _ (view : View) (octets : List ℕ → Option (List ℕ)) (path : List ℕ) (others : List (List ℕ)) (old : Device)
    (m : Marked) (marked : AreMarked octets (path ∷ others) [] Others m) where
  abbrev its : Sources
  its = marked_sources octets path others [] Others m marked

  abbrev result_of : Device → Result Status Fault → Type 0
  result_of new result = StreamedJoinResult view octets (path ∷ others) old new result

  module _ (paths : List (List ℕ)) (runs : List Run) (c : Chosen) (same_paths : paths ≡ path ∷ others)
      (same_runs : runs ≡ m.runs.items) (same_chosen : c ≡ m.chosen) where
    -- a file could not be read again
    refused : (failed : Bor (List ℕ)) → IsMissedRead octets paths runs c (Read failed)
        → IsRefusedAmong octets (path ∷ others) (Read failed)
    refused failed h =
        refused_among octets m.names (path ∷ others) marked.theirs marked.saved failed.now
        (subst (λ (z : List (List ℕ)). Contains z failed.now) same_paths h.0) (Read failed) (
          refl,
          of_marked_runs octets path others [] Others m marked paths runs c same_paths same_runs same_chosen
              (λ s. octets failed.now ≡ None) h.1,
        )

    -- the records were not read from which the form is made
    no_form : (f : Fault) → IsMissedRead octets paths runs c f → result_of old (Err f)
    no_form (Read failed) h = inl (refused failed h, kept old)
    no_form Memory h = inl (kept old)
    no_form f h = absurd h

    pub form_refused : (g f : Fault) (r : Result Status Fault) → r ≡ Err f → f ≡ g
        → IsMissedRead octets paths runs c g → result_of old r
    form_refused g f r is of h = rw (is, of) (no_form g h)

  -- what is taken, in the form of the view
  pub record IsReady (shape : PartedView) (t : Taking) : Type 0 where
    pub shape_is : parted view ≡ Some shape
    pub chosen : t.chosen.now ≡ m.chosen
    pub form : IsFormOf m.names shape t.form.now
    pub measured : IsMeasuredForm m.chosen t.form.now its
    pub head : t.head.items ≡ head_text t.form.now m.others

  pub measured_by : (paths : List (List ℕ)) (runs : List Run) → paths ≡ path ∷ others → runs ≡ m.runs.items
      → (form : Form) → IsOfRuns octets paths runs m.chosen (IsMeasuredForm m.chosen form)
      → IsMeasuredForm m.chosen form its
  measured_by paths runs same_paths same_runs form h =
      of_marked_runs octets path others [] Others m marked paths runs m.chosen same_paths same_runs refl
      (IsMeasuredForm m.chosen form) h

  pub head_by : (form : Form) (start out : List ℕ) → start ≡ [] → out ≡ start ++ head_text form m.others
      → out ≡ head_text form m.others
  head_by form start out none put = put ∙ ap (λ z. z ++ head_text form m.others) none

  module _ (law : AllFormLaws) (title_law : AllTitlePartLaws) (shape : PartedView) (t : Taking)
      (is_ready : IsReady shape t) where
    abbrev form : Form
    form = t.form.now

    abbrev IsGiven : List Fact → Type 0
    IsGiven given = AreGivenOf its m.chosen given

    given_of : (given : List Fact) → IsGiven given → IsMarkedGiven octets path others [] Others m marked given
    given_of given are = given_by octets path others [] Others m marked given are

    -- the text that is written
    abbrev text_of : List Fact → List ℕ
    text_of given = t.head.items ++ form_text form given

    joined_of : (given : List Fact) (are : IsGiven given)
        → AreJoined octets m.names (path ∷ others) (given_of given are).facts
    joined_of given are =
        let g = given_of given are in
        subst (λ (l : List Fact). AreJoined octets m.names (path ∷ others) l) (sym (g.whole refl)) g.joined

    -- it is the whole text of the facts of all files
    whole_of : (given : List Fact) (are : IsGiven given)
        → text_of given ≡ whole_text form (given_of given are).facts
    whole_of given are =
        let g = given_of given are in
        ap (λ z. z ++ form_text form given) is_ready.head
        ∙ sym ((law.parts form m.others given g.facts).whole (g.parts m.others (marked.others tt))
        (others_are m.chosen marked.theirs m.others (marked.others tt)))

    -- it is the list
    listed : (given : List Fact) (are : IsGiven given) → DoesFit form given
        → IsListOf octets view (path ∷ others) (given_of given are).facts (text_of given)
    listed given are fit =
        let g = given_of given are in
        let fits : DoesFit form g.facts =
        all_fit law form m.others given g.facts (g.parts m.others (marked.others tt))
        (others_are m.chosen marked.theirs m.others (marked.others tt)) fit in (
          m.names,
          joined_of given are,
          whole_of given are
              ∙ subst (λ (o : Option PartedView). IfSome o (λ s. (form : Form) → IsFormOf m.names s form
              → DoesFit form g.facts → whole_text form g.facts ≡ printed m.names view [] [] g.facts))
              is_ready.shape_is (shape_printed m.names g.facts title_law view) form is_ready.form fits,
        )

    -- or it may have other columns
    mismeasured : (given : List Fact) (are : IsGiven given) → its.unknown ≡ true
        → IsInColumns m.names (given_of given are).facts shape form
        → IsMismeasured view octets (path ∷ others) (given_of given are).facts (text_of given)
    mismeasured given are unknown columns = record {
      unknown = (has_unknown octets m.names (path ∷ others)).1.0 unknown;
      extent = columns.extent;
      shape = is_ready.shape_is ∙ ap Some columns.is;
      names = m.names;
      joined = joined_of given are;
      w = columns.w;
      filled = columns.filled;
      is = whole_of given are ∙ columns.text;
    }

    list_or_so : (given : List Fact) (are : IsGiven given)
        → IsListOrSo view octets (path ∷ others) (given_of given are).facts (text_of given)
    list_or_so given are = ⊎_elim (λ fit. inl (listed given are fit))
        (λ h. inr (mismeasured given are h.0 (h.1 (given_of given are).facts)))
        (shape_fits its m.chosen m.names given are shape form is_ready.form is_ready.measured)

    -- ---- a part is written

    -- of the text of facts that may be given
    record IsPartOf (text : List ℕ) : Type 0 where
      given : List Fact
      rest : List ℕ
      are : IsGiven given
      cut : text_of given ≡ text ++ rest

    given_as : (given : List Fact) → AreGivenOf its t.chosen.now given → IsGiven given
    given_as given are = subst (λ c. AreGivenOf its c given) is_ready.chosen are

    part_of : (text : List ℕ) → AreRowsFrontOf its t text → IsPartOf text
    part_of text front = record {
      given = front.given;
      rest = front.rest;
      are = given_as front.given front.are;
      cut = sym front.octets;
    }

    broken_at : (new : Device) (text : List ℕ) → IsPartOf text → HasGained old new text
        → IsListBrokenOff view octets (path ∷ others) old new
    broken_at new text part gained = record {
      facts = (given_of part.given part.are).facts;
      text = text_of part.given;
      list = list_or_so part.given part.are;
      output = record { front = text; rest = part.rest; cut = part.cut; gained = gained };
    }

    -- the stream failed there
    stopped_at : (new : Device) (text : List ℕ) → IsPartOf text → (to : Bor (List ℕ)) → to.now ≡ old.path
        → HasStopped old new text → result_of new (Err (Write to))
    stopped_at new text part to same stopped =
        let facts : List Fact = (given_of part.given part.are).facts in
        let failure : PutFailure old new (text_of part.given) (Write to) =
        (same, stopped_whole old new text part.rest (text_of part.given) part.cut stopped) in
        ⊎_elim (λ list. inl (facts, text_of part.given, list, failure))
        (λ other. inr (facts, text_of part.given, other, failure)) (list_or_so part.given part.are)

    module _ (paths : List (List ℕ)) (runs : List Run) (same_paths : paths ≡ path ∷ others)
        (same_runs : runs ≡ m.runs.items) where
      of_runs : (P : Sources → Type 0) → IsOfRuns octets paths runs t.chosen.now P → P its
      of_runs P h =
          of_marked_runs octets path others [] Others m marked paths runs t.chosen.now same_paths same_runs
          is_ready.chosen P h

      cut_at : (new : Device) → IsOfRuns octets paths runs t.chosen.now (IsCutOff t old new)
          → IsListBrokenOff view octets (path ∷ others) old new
      cut_at new h =
          let cut : IsCutOff t old new its = of_runs (IsCutOff t old new) h in
          broken_at new cut.text (part_of cut.text cut.is) cut.gained

      not_written : (A : Type 0) (new : Device) (f : Fault)
          → WriteRowsResult octets paths runs {A = A} t old new (Err f) → result_of new (Err f)
      not_written A new (Read failed) h = inr (
        inl (refused paths runs t.chosen.now same_paths same_runs is_ready.chosen failed h.0),
        cut_at new h.1,
      )
      not_written A new (Write failed) h =
          let s : IsStopped t old new its = of_runs (IsStopped t old new) h.1 in
          stopped_at new s.text (part_of s.text s.is) failed h.0 s.stopped
      not_written A new Memory (inl same) = inl same
      not_written A new Memory (inr h) = inr (cut_at new h)
      not_written A new f h = absurd h

      rows_refused : {A : Type 0} (new : Device) (w : Result (Vec ℕ A × Tally) Fault)
          → WriteRowsResult octets paths runs t old new w → (g f : Fault) (r : Result Status Fault) → w ≡ Err g
          → r ≡ Err f → f ≡ g → result_of new r
      rows_refused {A = A} new w h g f r was is of =
          rw (is, of) (not_written A new g (subst (λ z. WriteRowsResult octets paths runs t old new z) was h))

      -- all but the last octets were written
      module _ {A : Type 0} (late : Device) (last : Vec ℕ A) (told : Tally)
          (written : WriteRowsResult octets paths runs t old late (Ok (last, told))) where
        is : IsWritten t old late last.items told its
        is = of_runs (IsWritten t old late last.items told) written

        are : IsGiven is.is.given
        are = given_as is.is.given is.is.are

        abbrev known : List Fact
        known = (given_of is.is.given are).facts

        -- then it is a view for readers
        other_view : (s : PartedView) (z : Form) → IsFormOf m.names s z → parted view ≡ Some s
            → (IsAsTold z told → ⊥) → IsOtherView view octets (path ∷ others)
        other_view (parts.List mode) z of shape_is other =
            absurd (other (subst (λ (y : Form). IsAsTold y told) (sym of) tt))
        other_view parts.Json z of shape_is other =
            absurd (other (subst (λ (y : Form). IsAsTold y told) (sym of) tt))
        other_view (parts.Readers extent) z of shape_is other = (extent, shape_is)

        -- what was told is not so
        not_as_told : (first : Bor (List ℕ)) → first.now ≡ path → (IsAsTold form told → ⊥)
            → result_of late (Err (Read first))
        not_as_told first same other = inr (
          inr (
            subst (λ z. Contains (path ∷ others) z) (sym same) (in_head path others),
            other_view shape form is_ready.form is_ready.shape_is other,
          ),
          broken_at late is.text
              (record { given = is.is.given; rest = last.items; are = are; cut = sym is.is.octets }) is.gained,
        )

        failed : HasFailure known ↔ (m.failed ≡ true)
        failed = has_failed octets path others [] Others m marked is.is.given (given_of is.is.given are)

        status_known : (b : Bool) → m.failed ≡ b → (status : Status) → IsStatusOf b status → IsKnownStatus known status
        status_known true e status h = subst (IsKnownStatus known) (sym h) (failed.1 e)
        status_known false e status h =
            subst (IsKnownStatus known) (sym h) (λ one. let no : m.failed ≡ true = failed.0 one in absurd cc)

        module _ (as_told : IsAsTold form told) where
          list : IsListOf octets view (path ∷ others) known (text_of is.is.given)
          list = listed is.is.given are (told_fit form is.is.given told is.is.tally as_told)

          ended : (new : Device) (text : List ℕ) (status : Status) (r : Result Status Fault) → text ≡ last.items
              → IsStatusOf m.failed status → PutListResult text status late new r → result_of new r
          ended new text status (Ok s) of state h = inl (
            known,
            text_of is.is.given,
            list,
            subst (IsKnownStatus known) (sym h.0) (status_known m.failed refl status state),
            subst (λ z. HasGained old new z) (ap (λ z. is.text ++ z) of ∙ is.is.octets)
                (gained_more old late new is.text text is.gained h.1),
          )
          ended new text status (Err (Write to)) of state h =
              let failure : PutFailure old new (text_of is.is.given) (Write to) = (
                h.0 ∙ is.gained.path,
                subst (λ z. HasStopped old new z) (ap (λ z. is.text ++ z) of ∙ is.is.octets)
                    (gained_stopped old late new is.text text is.gained h.1),
              ) in
              inl (known, text_of is.is.given, list, failure)
          ended new text status (Err f) of state h = absurd h

  -- the same, where what is taken is known by what was written
  module _ (law : AllFormLaws) (title_law : AllTitlePartLaws) (shape : PartedView) (paths : List (List ℕ))
      (runs : List Run) (same_paths : paths ≡ path ∷ others) (same_runs : runs ≡ m.runs.items) where
    pub join_refused_rows : {A : Type 0} (new : Device) (w : Result (Vec ℕ A × Tally) Fault) (t : Taking)
        → WriteRowsResult octets paths runs t old new w → IsReady shape t → (g f : Fault) (r : Result Status Fault)
        → w ≡ Err g → r ≡ Err f → f ≡ g → result_of new r
    join_refused_rows new w t h is_ready g f r was is of =
        rows_refused law title_law shape t is_ready paths runs same_paths same_runs new w h g f r was is of

    pub join_changed : {A : Type 0} (late : Device) (last : Vec ℕ A) (told : Tally) (t : Taking)
        → WriteRowsResult octets paths runs t old late (Ok (last, told)) → IsReady shape t → (first : Bor (List ℕ))
        → first.now ≡ path → (IsAsTold t.form.now told → ⊥) → result_of late (Err (Read first))
    join_changed late last told t written is_ready first same other =
        not_as_told law title_law shape t is_ready paths runs same_paths same_runs late last told written first same
        other

    pub join_ended : {A : Type 0} (late : Device) (last : Vec ℕ A) (told : Tally) (t : Taking)
        → WriteRowsResult octets paths runs t old late (Ok (last, told)) → IsReady shape t → IsAsTold t.form.now told
        → (new : Device) (text : List ℕ) (status : Status) (r : Result Status Fault) → text ≡ last.items
        → IsStatusOf m.failed status → PutListResult text status late new r → result_of new r
    join_ended late last told t written is_ready as_told new text status r of state h =
        ended law title_law shape t is_ready paths runs same_paths same_runs late last told written as_told new text
        status r of state h
