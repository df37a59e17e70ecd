-- No command changes another file than those that it was told to write.
use Rattle.std.proofs.Common.{◌≡◌, ◌∙◌, inl, inr, refl, sym, subst, ℕ, Bool, true, false, List, ◌∷◌, Option, Some, None, Result, Ok, Err}
use Rattle.zmeta_args.specs.declared.arguments.Arguments.TheVariants.{Show, Dialogue, Pqf, Join, New, Records, Run, Ask, Replay, Loop, Serve, Catalogues, WorldOf, CataloguesOf}
use Rattle.zmeta_args.specs.declared.arguments.LimitOptions.{LimitOptions}
use Rattle.zmeta_args.specs.declared.arguments.SearchOptions.{SearchOptions}
use Rattle.zmeta_args.specs.declared.arguments.View.{View}
use Rattle.zmeta_args.specs.Texts.{texts_of, now_of}
use Rattle.zmeta_catalogue_files.specs.declared.refusal.UnionFault.{UnionFault}
use Rattle.zmeta_catalogue_files.specs.Paths.{is_catalogue_path}
use Rattle.zmeta_devices.specs.Devices.{Device, Outputs, written}
use Rattle.zmeta_devices.specs.Files.{Files, IsAt, with_draft, IsKept, IsUnmade}
use Rattle.zmeta_devices.specs.declared.fault.Fault.{Fault}
use Rattle.zmeta_devices.specs.declared.fault.Fault.TheVariants.{Write, Memory}
use Rattle.zmeta_devices.specs.declared.fault.Status.{Status}
use Rattle.zmeta_offline.specs.Join.{JoinSavedResult, AfterJoinSaved}
use Rattle.zmeta_offline.specs.Merged.{streams_at, MergeFilesResult, AfterMerge}
use Rattle.zmeta_offline.specs.Saved.{SaveFactsResult}
use Rattle.zknow.specs.declared.fact.Fact.{Fact}
use Rattle.zmeta_searches.specs.Searches.{search_of}
use Rattle.zoom.specs.TraceEntry.{TraceEntry}
use Rattle.zmeta_world.specs.Search.{SearchTexts}
use Rattle.zmeta_commands.specs.declared.finished.Finished.{Finished}
use Rattle.zmeta_commands.specs.Arguments.{AfterJoinCall}
use Rattle.zmeta_commands.specs.Begun.{begun_in, IsTraceBegun}
use Rattle.zmeta_commands.specs.CatalogueFiles.{AfterUnionAsked, AfterUnionAsk, AfterAskOf}
use Rattle.zmeta_commands.specs.Choice.{ChoiceTexts, manner_of}
use Rattle.zmeta_commands.specs.Finished.{SaveResult, IsOfSearchedWorld, AfterAsked, AfterCommand}
use Rattle.zmeta_commands.specs.Loop.{IsOfLoop, LoopFileResult}
use Rattle.zmeta_commands.specs.Others.{IsOther, AreLeft, OtherFilesLaw}
use Rattle.zmeta_commands.specs.Replay.{finished_in, AfterReplay}
use Rattle.zmeta_commands.specs.Run.{RunFileResult}
use Rattle.zmeta_commands.specs.Serve.{Serves}
use Rattle.zmeta_commands.specs.Traced.{IsTraceIf, AfterClosing, CloseResult, TraceResult, AfterTracedAsk}

module _ (saved trace : Option (List ℕ)) where
  -- nothing happened, or a draft was begun
  left_same : (old new : Files) → new ≡ old → AreLeft old new saved trace
  left_same old new is = subst (λ (z : Files). AreLeft old z saved trace) (sym is)
      (record { same = refl; left = λ other one two. refl })

  left_begun : (old : Files) (path : Option (List ℕ)) → AreLeft old (begun_in old path) saved trace
  left_begun old None = record { same = refl; left = λ other one two. refl }
  left_begun old (Some path) = record { same = refl; left = λ other one two. refl }

  -- one thing after the other
  left_then : (old mid new : Files) → AreLeft old mid saved trace → AreLeft mid new saved trace
      → AreLeft old new saved trace
  left_then old mid new a b = record {
    same = b.same ∙ a.same;
    left = λ other one two.
        b.left other (subst (λ z. IsOther z saved other) (sym a.same) one)
        (subst (λ z. IsOther z trace other) (sym a.same) two)
        ∙ a.left other one two;
  }

  -- behind a draft that was begun
  left_behind : (old new : Files) (path : Option (List ℕ)) → AreLeft (begun_in old path) new saved trace
      → AreLeft old new saved trace
  left_behind old new path b = left_then old (begun_in old path) new (left_begun old path) b

-- a file was made at the path
left_at_saved : (path : List ℕ) (trace : Option (List ℕ)) (old new : Files) → IsAt old new path
    → AreLeft old new (Some path) trace
left_at_saved path trace old new at = record { same = at.same; left = λ other one two. at.elsewhere other one }

left_at_trace : (saved : Option (List ℕ)) (path : List ℕ) (old new : Files) → IsAt old new path
    → AreLeft old new saved (Some path)
left_at_trace saved path old new at = record { same = at.same; left = λ other one two. at.elsewhere other two }

-- ---- the saved file

left_facts : (names : List (List ℕ)) (facts : List Fact) (path : List ℕ) (trace : Option (List ℕ)) (old new : Files)
    (result : Result (Unit {0}) Fault) → SaveFactsResult names facts path old new result
    → AreLeft old new (Some path) trace
left_facts names facts path trace old new (Ok u) h = left_at_saved path trace old new h.2.at
left_facts names facts path trace old new (Err (Write failed)) h = left_same (Some path) trace old new h.2
left_facts names facts path trace old new (Err Memory) h = left_same (Some path) trace old new h
left_facts names facts path trace old new (Err f) h = absurd h

left_saved : (r : Finished) (saved trace : Option (List ℕ)) (old new : Files) (result : Result (Unit {0}) Fault)
    → SaveResult r saved old new result → AreLeft old new saved trace
left_saved r None trace old new (Ok u) h = left_same None trace old new h
left_saved r None trace old new (Err f) h = absurd h
left_saved r (Some path) trace old new result h =
    left_facts r.names r.meta.pool.knowledge path trace old new result h

left_asked : (asked : Result Finished Fault) (saved trace : Option (List ℕ)) (old new : Files)
    (before after : Outputs) (status : Status) → AfterAsked asked saved old new before after status
    → AreLeft old new saved trace
left_asked (Ok r) saved trace old new before after status a = left_saved r saved trace old new a.2.kept a.2.file
left_asked (Err f) saved trace old new before after status a = left_same saved trace old new a.0

left_command : (says : List ℕ → Result Finished Fault → Type 0) (faults : List ℕ → Fault → Type 0) (world : List ℕ)
    (saved file : Option (List ℕ)) (old new : Files) (before after : Outputs) (status : Status)
    → AfterCommand says faults world saved file old new before after status → AreLeft old new saved None
left_command says faults world saved file old new before after status (inl none) = left_same saved None old new none.2
left_command says faults world saved file old new before after status (inr done) =
    let d = done.1 in
    left_behind saved None old new saved (left_asked d.0 saved None (begun_in old saved) new before after status d.3)

left_replay : (view : View) (path : List ℕ) (saved file : Option (List ℕ)) (old new : Files)
    (before after : Outputs) (status : Status) → AfterReplay view path saved file old new before after status
    → AreLeft old new saved None
left_replay view path saved file old new before after status (inl none) = left_same saved None old new none.2
left_replay view path saved file old new before after status (inr done) =
    let d = done.1 in
    left_behind saved None old new saved
    (left_asked (finished_in d.0) saved None (begun_in old saved) new (record before { errors = d.1 }) after d.2 d.6)

-- ---- the trace

left_logged : {A : Type 0} (saved trace : Option (List ℕ)) (old new : Files) (result : Result A Fault)
    → IsTraceBegun trace old new result → AreLeft old new saved trace
left_logged saved None old new result h = left_same saved None old new h
left_logged saved (Some path) old new (Ok x) h = left_at_trace saved path old new h.at
left_logged saved (Some path) old new (Err f) (inl same) = left_same saved (Some path) old new same
left_logged saved (Some path) old new (Err f) (inr h) = left_at_trace saved path old new h.at

left_closed : (saved trace : Option (List ℕ)) (entries : List TraceEntry) (old new : Files) (before after : Device)
    (first status : Status) → AfterClosing trace entries old new before after first status
    → AreLeft old new saved trace
left_closed saved None entries old new before after first status h = left_same saved None old new h.0
left_closed saved (Some path) entries old new before after first status (inl h) =
    left_at_trace saved path old new h.0.at
left_closed saved (Some path) entries old new before after first status (inr h) = by h.0
  where
    by : CloseResult old new path entries false → AreLeft old new saved (Some path)
    by (inl same) = left_same saved (Some path) old new same
    by (inr part) = left_at_trace saved path old new part.closed.at

left_ended : (Is : Finished → List TraceEntry → Type 0) (saved trace : Option (List ℕ))
    (asked : Result Finished Fault) (old new : Files) (before after : Device) (first status : Status)
    → TraceResult Is trace asked old new before after first status → AreLeft old new saved trace
left_ended Is saved trace (Err f) old new before after first status h = left_same saved trace old new h.0
left_ended Is saved trace (Ok r) old new before after first status h =
    left_closed saved trace h.0 old new before after first status h.2

left_traced : (choice : ChoiceTexts) (search : SearchTexts) (view : View) (trace : Option (List ℕ)) (world : List ℕ)
    (saved file : Option (List ℕ)) (old new : Files) (before after : Outputs) (status : Status)
    → AfterTracedAsk choice search view trace world saved file old new before after status
    → AreLeft old new saved trace
left_traced choice search view trace world saved file old new before after status (inl none) =
    left_same saved trace old new none.2
left_traced choice search view trace world saved file old new before after status (inr done) =
    let t = done.2 in
    left_behind saved trace old new saved
    (left_then saved trace (begun_in old saved) t.begun new
    (left_logged saved trace (begun_in old saved) t.begun t.asked t.begins)
    (left_then saved trace t.begun t.saving new
    (left_asked t.asked saved trace t.begun t.saving before (record after { errors = t.between }) t.first t.done)
    (left_ended (IsTraceIf choice search file) saved trace t.asked t.saving new t.between after.errors t.first status
    t.closes)))

-- ---- catalogues

left_union_asked : (path : List ℕ) (asked : Result Finished UnionFault) (saved trace : Option (List ℕ))
    (old new : Files) (before after : Outputs) (status : Status)
    → AfterUnionAsked path asked saved old new before after status → AreLeft old new saved trace
left_union_asked path (Ok r) saved trace old new before after status a =
    left_saved r saved trace old new a.2.kept a.2.file
left_union_asked path (Err f) saved trace old new before after status a = left_same saved trace old new a.0

left_union : (choice : ChoiceTexts) (given : LimitOptions) (options : SearchOptions) (view : View)
    (trace : Option (List ℕ)) (path : List ℕ) (saved file : Option (List ℕ)) (old new : Files)
    (before after : Outputs) (status : Status)
    → AfterUnionAsk choice given options view trace path saved file old new before after status
    → AreLeft old new saved trace
left_union choice given options view (Some trace) path saved file old new before after status h =
    left_same saved (Some trace) old new h.0
left_union choice given options view None path saved file old new before after status (inl none) =
    left_same saved None old new none.2
left_union choice given options view None path saved file old new before after status (inr done) =
    let d = done.1 in
    left_behind saved None old new saved
    (left_union_asked path d.0 saved None (begun_in old saved) new before after status d.3)

left_named : (is : Bool) (choice : ChoiceTexts) (given : LimitOptions) (options : SearchOptions) (view : View)
    (trace : Option (List ℕ)) (path : List ℕ) (saved file : Option (List ℕ)) (old new : Files)
    (before after : Outputs) (status : Status)
    → AfterAskOf is choice given options view trace path saved file old new before after status
    → AreLeft old new saved trace
left_named true choice given options view trace path saved file old new before after status h =
    left_union choice given options view trace path saved file old new before after status h
left_named false choice given options view trace path saved file old new before after status h =
    left_traced choice (search_of options) view trace path saved file old new before after status h

-- ---- joined files

left_unmade : (path : List ℕ) (old new : Files) → IsUnmade old new path → AreLeft old new (Some path) None
left_unmade path old new (inl same) = left_same (Some path) None old new same
left_unmade path old new (inr is) = subst (λ (z : Files). AreLeft old z (Some path) None) (sym is)
    (left_begun (Some path) None old (Some path))

left_kept : (path octets : List ℕ) (old new : Files) → IsKept (with_draft old path) new path octets
    → AreLeft old new (Some path) None
left_kept path octets old new h =
    left_behind (Some path) None old new (Some path) (left_at_saved path None (with_draft old path) new h.at)

left_merged : (paths : List (List ℕ)) (saved : List ℕ) (old new : Files) (before after : Device) (status : Status)
    → AfterMerge paths saved old new before after status → AreLeft old new (Some saved) None
left_merged paths saved old new before after status m = by m.0 m.1
  where
    by : (result : Result (Unit {0}) Fault) → MergeFilesResult (streams_at old.octets paths) saved old new result
        → AreLeft old new (Some saved) None
    by (Ok u) h = left_kept saved h.0 old new h.2
    by (Err f) h = left_unmade saved old new h.1

left_joined : (view : View) (paths : List (List ℕ)) (saved : List ℕ) (old new : Files) (before after : Outputs)
    (status : Status) → AfterJoinSaved view paths saved old new before after status
    → AreLeft old new (Some saved) None
left_joined view paths saved old new before after status j = by j.2
  where
    by : JoinSavedResult view paths saved old new before (record after { errors = j.1 }) j.0
        → AreLeft old new (Some saved) None
    by (inl none) = left_same (Some saved) None old new none.3
    by (inr (inl refused)) = left_unmade saved old new (inr refused.3)
    by (inr (inr done)) =
        left_behind (Some saved) None old new (Some saved)
        (left_facts done.0 done.1 saved None (with_draft old saved) new done.3.kept done.3.file)

left_join : (view : View) (paths : List (List ℕ)) (saved : Option (List ℕ)) (quiet : Bool) (old new : Files)
    (before after : Outputs) (status : Status)
    → AfterJoinCall view paths saved quiet old new before after status → AreLeft old new saved None
left_join view paths None quiet old new before after status h = left_same None None old new h.0
left_join view paths (Some saved) true old new before after status h =
    left_merged paths saved old new before.errors after.errors status h.1
left_join view paths (Some saved) false old new before after status h =
    left_joined view paths saved old new before after status h

-- ---- each command

pub others : (Stream : Type 0) (serves : Serves) → OtherFilesLaw Stream serves
others Stream serves Show old new before after status h = left_same None None old new h.0
others Stream serves (Dialogue trace only) old new before after status h = left_same None None old new h.0
others Stream serves (Pqf text search) old new before after status h = left_same None None old new h.0
others Stream serves (Join first more saved quiet view) old new before after status h =
    left_join view (first.now ∷ texts_of more.items) (now_of saved) quiet old new (written before) (written after)
    status h.1
others Stream serves (New earlier later view) old new before after status h = left_same None None old new h.0
others Stream serves (Records first more since only syntax conflicts) old new before after status h =
    left_same None None old new h.0
others Stream serves (Run world saved search view) old new before after status h =
    left_command (RunFileResult (search_of search) view) IsOfSearchedWorld world.now (now_of saved)
    (old.octets world.now) old new (written before) (written after) status h.1
others Stream serves (Ask world saved trace at_once only options search view) old new before after status h =
    left_named (is_catalogue_path world.now)
    (record { manner = manner_of at_once; only = texts_of only.items; limits = h.1.0 }) options search view
    (now_of trace) world.now (now_of saved) (old.octets world.now) old new (written before) (written after) status h.1.2
others Stream serves (Replay trace saved view) old new before after status h =
    left_replay view trace.now (now_of saved) (old.octets trace.now) old new (written before) (written after) status h.1
others Stream serves (Loop world saved search view) old new before after status h =
    left_command (LoopFileResult Stream (search_of search) view) IsOfLoop world.now (now_of saved)
    (old.octets world.now) old new (written before) (written after) status h.1
others Stream serves (Serve address name world count) old new before after status h = left_same None None old new h.0
others Stream serves (Catalogues path) old new before after status h = left_same None None old new h.0
others Stream serves (WorldOf catalogues search) old new before after status h = left_same None None old new h.0
others Stream serves (CataloguesOf world) old new before after status h = left_same None None old new h.0
