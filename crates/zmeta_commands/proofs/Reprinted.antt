-- What an ask printed is what each replay of its trace prints.
use Rattle.std.proofs.Common.{◌≡◌, refl, sym, ◌∙◌, ap, subst, inl, inr, ℕ, zero, suc, ◌+◌, ◌<◌, nat_lt, if◌then◌else◌, Bool, true, false, true≢false, List, [], ◌∷◌, ◌++◌, length, Option, Some, None, Result, Ok, Err}
use Rattle.std.proofs.lemmas.Bool.{lt-ltb}
use Rattle.zknow.specs.Saved.Saved.{saved as saved_file}
use Rattle.zknow_stops.specs.declared.detail.Detail.{Detail}
use Rattle.zknow_stops.specs.declared.stop.Stop.{Stop}
use Rattle.zmeta_args.specs.declared.arguments.View.{View}
use Rattle.zmeta_devices.specs.Devices.{Device, Outputs, HasGained, AfterTellLines, AfterEnd, has_broken}
use Rattle.zmeta_devices.specs.Explained.{stop_line}
use Rattle.zmeta_devices.specs.Faults.{status_of, refused_status, own_status}
use Rattle.zmeta_devices.specs.Files.{Files, IsKept, IsLogged}
use Rattle.zmeta_devices.specs.declared.fault.Fault.{Fault}
use Rattle.zmeta_devices.specs.declared.fault.Fault.TheVariants.{Memory}
use Rattle.zmeta_devices.specs.declared.fault.Status.{Status}
use Rattle.zmeta_devices.specs.declared.fault.Status.TheVariants as statuses
use Rattle.zmeta_devices.proofs.DeviceSteps.{failed_some}
use Rattle.zmeta_offline.specs.SameViews.{IsSameStopIf, AreSameStops}
use Rattle.zmeta_trace.specs.Given.{given_entries}
use Rattle.zmeta_world.specs.Search.{SearchTexts}
use Rattle.zoom.specs.Lines.{trace_of, AreWritable}
use Rattle.zoom.specs.TraceEntry.{TraceEntry}
use Rattle.zmeta_commands.specs.declared.finished.Finished.{Finished}
use Rattle.zmeta_commands.specs.declared.replay.Playback.{Playback}
use Rattle.zmeta_commands.specs.Ask.{AreAsked, AskFileResult}
use Rattle.zmeta_commands.specs.Choice.{ChoiceTexts}
use Rattle.zmeta_commands.specs.Begun.{begun_in, IsTraceBegun}
use Rattle.zmeta_commands.specs.Finished.{failure_line, told_line, told_of, address_at, stop_at, AreLinesFrom, PutFinishedResult, SaveResult, IsEndOfBoth, AfterFinished, AfterAsked}
use Rattle.zmeta_commands.specs.Replay.{AfterCut, cut_status, finished_in, is_cut_in, ReplayFileResult}
use Rattle.zmeta_commands.specs.Replayed.{IsSameFinished, AreShort, AreNoticed, IsWell, IsSameOutput, IsSameSaved, IsReprinted, IsReplayable, ReprintLaw}
use Rattle.zmeta_commands.specs.Traced.{IsTraceOf, IsTraceIf, AfterTrace, TraceResult, IsTracedAsked}
use Rattle.zmeta_commands.proofs.Repeated.{Laws, same}

-- ---- a command that did its work

no_refused : (own : Status) → IsWell (refused_status own) → ⊥
no_refused statuses.Memory w = w
no_refused own w = w

no_fault : (f : Fault) → IsWell (status_of f) → ⊥
no_fault Memory w = w
no_fault f w = w

no_err : {A E : Type 0} {x : A} {e : E} → Ok x ≡ Err e → ⊥
no_err q = cc

record HasEndedWell (result : Result Status Fault) (old new : Device) (status : Status) : Type 0 where
  pub own : Status
  pub is : result ≡ Ok own
  pub same : new ≡ old
  pub unbroken : has_broken new ≡ false

ended_well : (result : Result Status Fault) (old new : Device) (status : Status) → AfterEnd result old new status
    → IsWell status → HasEndedWell result old new status
ended_well (Err f) old new status a w = absurd (no_fault f (subst IsWell a.1 w))
ended_well (Ok own) old new status a w = by (has_broken new) refl
  where
    by : (b : Bool) → has_broken new ≡ b → HasEndedWell (Ok own) old new status
    by false is = record { own = own; is = refl; same = a.0; unbroken = is }
    by true is = absurd (no_refused own (subst IsWell (a.1 ∙ ap (λ (b : Bool). own_status b own) is) w))

-- ---- finished connections

-- the list and the lines were written, and the facts were saved
record HasPrinted (r : Finished) (kept : Option (List ℕ)) (old new : Files) (before after : Outputs)
    : Type 0 where
  pub list : HasGained before.output after.output r.list.items
  pub lines : List ℕ
  pub are : AreLinesFrom (told_of before.errors.explains r) r.meta 0 r.names lines
  pub told : HasGained before.errors after.errors lines
  pub saved : SaveResult r kept old new (Ok tt)

not_broken : (n : ℕ) → 0 < n → nat_lt 0 n ≡ false → ⊥
not_broken n lt e = true≢false (sym (lt-ltb 0 n lt) ∙ e)

not_stopped : (old new : Device) (lines : List ℕ) → AfterTellLines old new lines → has_broken new ≡ false
    → HasGained old new lines
not_stopped old new lines (inl s) sound =
    absurd (not_broken new.failures (failed_some old.failures new.failures s.failed) sound)
not_stopped old new lines (inr g) sound = g

printed_by : (r : Finished) (kept : Option (List ℕ)) (old new : Files) (before after : Outputs)
    (listed between : Device) (printed saved : Result (Unit {0}) Fault) (own : Status)
    → PutFinishedResult r before (record after { errors = listed }) printed → SaveResult r kept old new saved
    → IsEndOfBoth r printed saved listed between (Ok own) → has_broken between ≡ false
    → HasPrinted r kept old new before (record after { errors = between })
printed_by r kept old new before after listed between (Ok u) (Ok v) own put save end sound = record {
  list = put.0;
  lines = put.1.0;
  are = put.1.1;
  told = not_stopped before.errors between put.1.0
      (subst (λ (d : Device). AfterTellLines before.errors d put.1.0) (sym end.1) put.1.2) sound;
  saved = save;
}
printed_by r kept old new before after listed between (Err f) (Ok v) own put save end sound = absurd (no_err end.0)
printed_by r kept old new before after listed between (Ok u) (Err f) own put save end sound = absurd (no_err end.0)
printed_by r kept old new before after listed between (Err g) (Err f) own put save end sound = absurd (no_err end.0)

finished_well : (r : Finished) (kept : Option (List ℕ)) (old new : Files) (before after : Outputs)
    (status : Status) → AfterFinished r kept old new before after status → IsWell status
    → HasPrinted r kept old new before after
finished_well r kept old new before after status a w =
    let e = ended_well a.0 a.1 after.errors status a.3 w in
    let f = a.2 in
    let end : IsEndOfBoth r f.printed f.kept f.listed a.1 (Ok e.own) =
    subst (IsEndOfBoth r f.printed f.kept f.listed a.1) e.is f.end in
    let p = printed_by r kept old new before after f.listed a.1 f.printed f.kept e.own f.list f.file end
    (ap has_broken (sym e.same) ∙ e.unbroken) in
    subst (λ (d : Device). HasPrinted r kept old new before (record after { errors = d })) (sym e.same) p

-- ---- the same lines

same_at : (xs ys : List (Option Stop)) (c : ℕ) → AreSameStops xs ys → IsSameStopIf (stop_at xs c) (stop_at ys c)
same_at [] [] c is = tt
same_at [] (y ∷ ys) c is = absurd is
same_at (x ∷ xs) [] c is = absurd is
same_at (x ∷ xs) (y ∷ ys) zero is = is.0
same_at (x ∷ xs) (y ∷ ys) (suc c) is = same_at xs ys c is.1

same_line : (name : List ℕ) (address : Option (List ℕ)) (x y : Option Stop) → IsSameStopIf x y
    → stop_line name address x ≡ stop_line name address y
same_line name address None None is = refl
same_line name address None (Some t) is = absurd is
same_line name address (Some s) None is = absurd is
same_line name address (Some s) (Some t) is =
    ap (λ (d : Detail). stop_line name address (Some (record { reason = s.reason; detail = d }))) is.detail

module _ (one other : Finished) (is : IsSameFinished one other) (explains : Bool) where
  same_told : (c : ℕ) (name : List ℕ)
      → told_line (told_of explains one) c name ≡ told_line (told_of explains other) c name
  same_told c name =
      let first = ap (λ (a : List (Option (List ℕ))).
      stop_line name (address_at a c) (stop_at one.stops.items c)) is.addresses in
      let second = same_line name (address_at other.addresses.items c) (stop_at one.stops.items c)
      (stop_at other.stops.items c) (same_at one.stops.items other.stops.items c is.stops) in
      ap (λ (line : List ℕ). if explains then line else []) (first ∙ second)

  same_lines : (c : ℕ) (names : List (List ℕ)) (x y : List ℕ)
      → AreLinesFrom (told_of explains one) one.meta c names x
      → AreLinesFrom (told_of explains other) other.meta c names y → x ≡ y
  same_lines c [] x y a b = a ∙ sym b
  same_lines c (name ∷ names) x y a b =
      let state : a.0 ≡ b.0 = is.known.states c a.0 b.0 a.2 b.2 in
      let rest : a.1 ≡ b.1 = same_lines (c + 1) names a.1 b.1 a.3 b.3 in
      let told = same_told c name in
      a.4 ∙ (λ i. (failure_line name (state i) ++ told i) ++ rest i) ∙ sym b.4

  same_saved : (kept again : Option (List ℕ)) (old new from to : Files) → SaveResult one kept old new (Ok tt)
      → SaveResult other again from to (Ok tt) → IsSameSaved kept again old new from to
  same_saved None None old new from to a b = tt
  same_saved None (Some path) old new from to a b = tt
  same_saved (Some path) None old new from to a b = tt
  same_saved (Some path) (Some place) old new from to a b =
      let octets : b.0 ≡ a.0 =
      b.1.octets ∙ (λ i. saved_file (sym is.names i) (sym is.known.facts i)) ∙ sym a.1.octets in
      (a.0, a.2, subst (IsKept from to place) octets b.2)

-- ---- both commands

printed_same : (one other : Finished) (kept again : Option (List ℕ)) (old new from to : Files)
    (before after start end : Outputs) → IsSameFinished one other → start.errors.explains ≡ before.errors.explains
    → HasPrinted one kept old new before after → HasPrinted other again from to start end
    → IsSameOutput before after start end × IsSameSaved kept again old new from to
printed_same one other kept again old new from to before after start end is explains a b =
    let told : AreLinesFrom (told_of before.errors.explains other) other.meta 0 one.names b.lines =
    subst (λ (names : List (List ℕ)). AreLinesFrom (told_of before.errors.explains other) other.meta 0 names b.lines)
    (sym is.names)
    (subst (λ (x : Bool). AreLinesFrom (told_of x other) other.meta 0 other.names b.lines) explains b.are) in
    let lines : a.lines ≡ b.lines =
    same_lines one other is before.errors.explains 0 one.names a.lines b.lines a.are told in (
      record {
        list = one.list.items;
        printed = a.list;
        reprinted = subst (HasGained start.output end.output) (sym is.list) b.list;
        lines = a.lines;
        told = a.told;
        retold = subst (HasGained start.errors end.errors) (sym lines) b.told;
      },
      same_saved one other is before.errors.explains kept again old new from to a.saved b.saved,
    )

module _ (l : Laws) (choice : ChoiceTexts) (search : SearchTexts) (view : View) (file : List ℕ)
    (octets : AreWritable (given_entries file search choice.only)) (short : AreShort choice.limits) where
  module _ (r : Finished) (entries : List TraceEntry) (asked : AreAsked choice search view file r)
      (traced : IsTraceOf choice search file r entries)
      (noticed : AreNoticed choice.limits (length traced.0.questions) r entries)
      (kept : Option (List ℕ)) (made remade : Files) (before after : Outputs)
      (printed : HasPrinted r kept made remade before after) where
    replay_by : (replayed : Result Playback Fault) (told : Device) (first : Status) (again : Option (List ℕ))
        (from to : Files) (start end : Outputs) (ended : Status)
        → ReplayFileResult view (trace_of entries) replayed → AfterCut (is_cut_in replayed) start.errors told
        → AfterAsked (finished_in replayed) again from to (record start { errors = told }) end first
        → ended ≡ cut_status (is_cut_in replayed) first → IsWell ended
        → start.errors.explains ≡ before.errors.explains
        → IsSameOutput before after start end × IsSameSaved kept again made remade from to
    replay_by (Err f) told first again from to start end ended says cut done status w explains =
        absurd (no_fault f (subst IsWell (status ∙ done.2.1) w))
    replay_by (Ok p) told first again from to start end ended says cut done status w explains =
        let both = same l choice search view file r entries p (record {
          asked = asked;
          traced = traced;
          octets = octets;
          short = short;
          noticed = noticed;
        }) says in
        let uncut : told ≡ start.errors = subst (λ (b : Bool). AfterCut b start.errors told) both.1 cut in
        let first_well : IsWell first =
        subst IsWell (status ∙ ap (λ (b : Bool). cut_status b first) both.1) w in
        let reprinted : HasPrinted p.finished again from to start end =
        subst (λ (d : Device). HasPrinted p.finished again from to (record start { errors = d }) end) uncut
        (finished_well p.finished again from to (record start { errors = told }) end first done first_well) in
        printed_same r p.finished kept again made remade from to before after start end both.0 explains printed
        reprinted

    -- of any replay: one that began nothing did not do its work
    replay_any : IsReprinted view kept (trace_of entries) made remade before after
    replay_any path again from to start end ended (inl none) w explains =
        absurd (no_fault none.0 (subst IsWell none.4.1 w))
    replay_any path again from to start end ended (inr rep) w explains =
        let h = rep.1 in
        replay_by h.0 h.1 h.2 again (begun_in from again) to start end ended h.3 h.5 h.6 h.7 w explains

  module _ (trace : List ℕ) (kept : Option (List ℕ)) (old begun saving new : Files) (before after : Outputs)
      (log : IsLogged (begun_in old kept) begun trace) where
    closed_by : (r : Finished) (entries : List TraceEntry) (between : Device) (first status : Status)
        → AreAsked choice search view file r → IsTraceOf choice search file r entries
        → AfterAsked (Ok r) kept begun saving before (record after { errors = between }) first
        → AfterTrace trace entries saving new between after.errors first status → IsWell status
        → IsReplayable choice search view trace kept file old new before after
    closed_by r entries between first status asked traced done (inr x) w =
        absurd (no_refused first (subst IsWell x.2 w))
    closed_by r entries between first status asked traced done (inl x) w =
        let printed : HasPrinted r kept begun saving before after =
        subst (λ (d : Device). HasPrinted r kept begun saving before (record after { errors = d })) (sym x.1)
        (finished_well r kept begun saving before (record after { errors = between }) first done
        (subst IsWell x.2 w)) in record {
          finished = r;
          entries = entries;
          begun = begun;
          saving = saving;
          asked = asked;
          traced = traced;
          logged = log;
          closed = x.0;
          same = λ noticed. replay_any r entries asked traced noticed kept begun saving before after printed;
        }

  traced_by : (trace world : List ℕ) (kept : Option (List ℕ)) (old new : Files) (before after : Outputs)
      (status : Status)
      (t : IsTracedAsked choice search view (Some trace) world kept (Some file) old new before after status)
      → IsWell status → IsReplayable choice search view trace kept file old new before after
  traced_by trace world kept old new before after status t w = by t.asked t.says t.begins t.done t.closes
    where
      by : (asked : Result Finished Fault) → AskFileResult choice search view file asked
          → IsTraceBegun (Some trace) (begun_in old kept) t.begun asked
          → AfterAsked asked kept t.begun t.saving before (record after { errors = t.between }) t.first
          → TraceResult (IsTraceIf choice search (Some file)) (Some trace) asked t.saving new t.between after.errors
          t.first status → IsReplayable choice search view trace kept file old new before after
      by (Err f) says begins done closing = absurd (no_fault f (subst IsWell (closing.2 ∙ done.2.1) w))
      by (Ok r) says begins done closing =
          let is = closing.1 in
          let traced : IsTraceOf choice search file r closing.0 =
          subst (λ (o : List ℕ). IsTraceOf choice search o r closing.0) is.1 is.2 in
          closed_by trace kept old t.begun t.saving new before after begins r closing.0 t.between t.first status says
          traced done closing.2 w

pub replayed : Laws → ReprintLaw
replayed l choice search view trace world kept file old new before after status octets short (inl none) w =
    absurd (no_fault none.0 (subst IsWell none.4.1 w))
replayed l choice search view trace world kept file old new before after status octets short (inr a) w =
    traced_by l choice search view file octets short trace world kept old new before after status a.2 w
