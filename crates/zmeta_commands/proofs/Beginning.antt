-- What was begun before hosts were asked, and what became of it.
use Rattle.std.proofs.Common.{◌≡◌, ◌∙◌, inl, inr, refl, sym, ap, subst, ℕ, List, is_some, Option, Some, None, Result, Ok, Err, IfSome, IfErr, IfOk}
use Rattle.zmeta_args.specs.declared.arguments.View.{View}
use Rattle.zmeta_devices.specs.Devices.{Device, Outputs, AfterEnd}
use Rattle.zmeta_devices.specs.Files.{Files, FileStep, FileSteps, with_step, WasTaken, IsDraft}
use Rattle.zmeta_devices.specs.Files.FileStep.{drafted, kept, logged}
use Rattle.zmeta_devices.proofs.Filing.{taken_later, taken_last, known_later, made_steps}
use Rattle.zmeta_devices.specs.declared.fault.Fault.{Fault}
use Rattle.zmeta_devices.specs.declared.fault.Fault.TheVariants.{Write, Memory}
use Rattle.zmeta_devices.specs.declared.fault.Status.{Status}
use Rattle.zmeta_offline.specs.Saved.{IsBegunIf}
use Rattle.zmeta_offline.specs.declared.saved.Saving.{Saving}
use Rattle.zmeta_world.specs.Search.{SearchTexts}
use Rattle.zoom.specs.TraceEntry.{TraceEntry}
use Rattle.zoom.specs.Tracer.{Tracer}
use Rattle.zmeta_commands.specs.declared.ask.Answered.{Answered}
use Rattle.zmeta_commands.specs.declared.finished.Finished.{Finished}
use Rattle.zmeta_commands.specs.Ask.{AskFileResult, IsOfAsking}
use Rattle.zmeta_commands.specs.Begun.{AreApart, begun_in, IsSavingFault, IsTraceBegun, IsTraceApart, TraceApartResult, IsOpenIf}
use Rattle.zmeta_args.specs.declared.arguments.LimitOptions.{LimitOptions}
use Rattle.zmeta_args.specs.declared.arguments.SearchOptions.{SearchOptions}
use Rattle.zmeta_catalogue_files.specs.declared.refusal.UnionFault.{UnionFault}
use Rattle.zmeta_commands.specs.declared.replay.Playback.{Playback}
use Rattle.zmeta_commands.specs.CatalogueFiles.{AskUnionResult, IsOfUnionAsk, AfterUnionAsked, AfterUnionAsk}
use Rattle.zmeta_commands.specs.Choice.{ChoiceTexts}
use Rattle.zmeta_commands.specs.Replay.{ReplayFileResult, IsOfReplay, AfterCut, is_cut_in, finished_in, cut_status, AfterReplay}
use Rattle.zmeta_commands.specs.Finished.{SaveResult, AfterAsked, AfterCommand}
use Rattle.zmeta_commands.specs.Traced.{HoldsIf, HasLogged, IsTracedFile, AfterClosing, ConcludeResult, IsTracedAsked, AfterTracedAsk, finished_of}

-- ---- steps

-- steps that were taken stay, and they are known as before
pub record IsLater (old new : FileSteps) : Type 0 where
  pub taken : (step : FileStep) → WasTaken old step → WasTaken new step
  pub known : is_some new ≡ is_some old

pub later_same : (steps : FileSteps) → IsLater steps steps
later_same steps = record { taken = λ step h. h; known = refl }

pub later_step : (old new : FileSteps) (step : FileStep) → new ≡ with_step old step → IsLater old new
later_step old new step is = record {
  taken = λ taken h. subst (λ z. WasTaken z taken) (sym is) (taken_later old taken step h);
  known = ap (λ z. is_some z) is ∙ known_later old step;
}

pub later_as : (old new : Files) → new ≡ old → IsLater old.steps new.steps
later_as old new same = subst (λ (z : Files). IsLater old.steps z.steps) (sym same) (later_same old.steps)

-- the facts were saved, or not
saved_later : (r : Finished) (saved : Option (List ℕ)) (old new : Files) (result : Result (Unit {0}) Fault)
    → SaveResult r saved old new result → IsLater old.steps new.steps
saved_later r None old new (Ok u) h = later_as old new h
saved_later r None old new (Err f) h = absurd h
saved_later r (Some path) old new (Ok u) h =
    later_step old.steps new.steps (kept path h.0) (made_steps old new path h.0 (kept path h.0) h.2)
saved_later r (Some path) old new (Err (Write failed)) h = later_as old new h.2
saved_later r (Some path) old new (Err Memory) h = later_as old new h
saved_later r (Some path) old new (Err f) h = absurd h

pub asked_later : (asked : Result Finished Fault) (saved : Option (List ℕ)) (old new : Files)
    (before after : Outputs) (status : Status) → AfterAsked asked saved old new before after status
    → IsLater old.steps new.steps
asked_later (Ok r) saved old new before after status a = saved_later r saved old new a.2.kept a.2.file
asked_later (Err f) saved old new before after status a = later_as old new a.0

-- the log of a trace was begun, or not
pub trace_later : {A : Type 0} (trace : Option (List ℕ)) (old new : Files) (result : Result A Fault)
    → IsTraceBegun trace old new result → IsLater old.steps new.steps
trace_later None old new result h = later_as old new h
trace_later (Some path) old new (Ok x) h = later_step old.steps new.steps (logged path) h.steps
trace_later (Some path) old new (Err f) (inl same) = later_as old new same
trace_later (Some path) old new (Err f) (inr h) = later_step old.steps new.steps (logged path) h.steps

-- ---- what was begun is there later

draft_later : (old new : FileSteps) (contents : Option (List ℕ)) → is_some new ≡ is_some old → IsDraft old contents
    → IsDraft new contents
draft_later None None contents known h = h
draft_later None (Some steps) contents known h = absurd cc
draft_later (Some steps) None contents known h = absurd cc
draft_later (Some steps) (Some more) contents known h = h

pub saving_later : {D : Type 0} (contents : D → Option (List ℕ)) (old new : FileSteps) (saving : Option (Saving D))
    → IsLater old new → IsBegunIf contents old saving → IsBegunIf contents new saving
saving_later contents old new None later h = tt
saving_later contents old new (Some s) later h = record {
  taken = later.taken (drafted s.path.now) h.taken;
  empty = draft_later old new (contents s.draft) later.known h.empty;
}

holds_later : (old new : FileSteps) (contents : Option (List ℕ)) (octets : List ℕ) → is_some new ≡ is_some old
    → HoldsIf old contents octets → HoldsIf new contents octets
holds_later None None contents octets known h = tt
holds_later None (Some steps) contents octets known h = absurd cc
holds_later (Some steps) None contents octets known h = tt
holds_later (Some steps) (Some more) contents octets known h = h

pub logged_later : {W : Type 0} (contents : W → Option (List ℕ)) (old new : FileSteps) (entries : List TraceEntry)
    (left : Option (Tracer W)) → IsLater old new → HasLogged contents old entries left
    → HasLogged contents new entries left
logged_later contents old new entries None later h = tt
logged_later contents old new entries (Some t) later h = record {
  front = h.front;
  rest = h.rest;
  cut = h.cut;
  holds = holds_later old new (contents t.sink) h.front later.known h.holds;
  all = h.all;
}

pub open_later : (trace : Option (List ℕ)) (old new : FileSteps) → IsLater old new → IsOpenIf trace old
    → IsOpenIf trace new
open_later None old new later h = tt
open_later (Some path) old new later h = later.taken (logged path) h

-- a log that was begun is open
pub trace_open : {A : Type 0} (trace : Option (List ℕ)) (old new : Files) (result : Result A Fault)
    → IsTraceBegun trace old new result → IfOk result (λ x. IsOpenIf trace new.steps)
trace_open None old new (Ok x) h = tt
trace_open None old new (Err f) h = tt
trace_open (Some path) old new (Ok x) h =
    subst (λ z. WasTaken z (logged path)) (sym h.steps) (taken_last old.steps (logged path))
trace_open (Some path) old new (Err f) h = tt

-- ---- the folder behind a draft

-- each file is as it was
pub begun_octets : (s : Files) (saved : Option (List ℕ)) → (begun_in s saved).octets ≡ s.octets
begun_octets s None = refl
begun_octets s (Some path) = refl

pub octets_then : (old new : Files) (saved : Option (List ℕ)) (path : List ℕ) → new ≡ begun_in old saved
    → new.octets path ≡ old.octets path
octets_then old new saved path is =
    ap (λ (z : Files). z.octets path) is ∙ ap (λ z. z path) (begun_octets old saved)

-- ---- a command that saves

module _ (world : List ℕ) (saved path : Option (List ℕ)) (old mid new : Files) (before after : Outputs)
    (status : Status) (apart : AreApart old world saved) (is : mid ≡ begun_in old saved) (same : path ≡ saved) where
  -- a draft was begun, and what is known was printed and saved
  pub command_done : (says : List ℕ → Result Finished Fault → Type 0) (faults : List ℕ → Fault → Type 0)
      (asked : Result Finished Fault) → IfSome (mid.octets world) (λ octets. says octets asked)
      → IfErr asked (faults world) → AfterAsked asked path mid new before after status
      → AfterCommand says faults world saved (old.octets world) old new before after status
  command_done says faults asked said of done = inr (
    apart,
    (
      asked,
      subst (λ z. IfSome z (λ octets. says octets asked)) (octets_then old mid saved world is) said,
      of,
      subst (λ (z : Files). AfterAsked asked saved z new before after status) is
          (subst (λ (z : Option (List ℕ)). AfterAsked asked z mid new before after status) same done),
    ),
  )

  -- the same for catalogues
  pub union_done : (choice : ChoiceTexts) (given : LimitOptions) (options : SearchOptions) (view : View)
      (asked : Result Finished UnionFault)
      → IfSome (mid.octets world) (λ octets. AskUnionResult choice given options view octets asked)
      → IfErr asked (IsOfUnionAsk world) → AfterUnionAsked world asked path mid new before after status
      → AfterUnionAsk choice given options view None world saved (old.octets world) old new before after status
  union_done choice given options view asked said of done = inr (
    apart,
    (
      asked,
      subst (λ z. IfSome z (λ octets. AskUnionResult choice given options view octets asked))
          (octets_then old mid saved world is) said,
      of,
      subst (λ (z : Files). AfterUnionAsked world asked saved z new before after status) is
          (subst (λ (z : Option (List ℕ)). AfterUnionAsked world asked z mid new before after status) same done),
    ),
  )

  -- the same for a replay: `told` is standard error once it was told that the trace is cut off
  pub replay_done : (view : View) (replayed : Result Playback Fault) (told : Device) (first : Status)
      → IfSome (mid.octets world) (λ octets. ReplayFileResult view octets replayed)
      → IfErr replayed (IsOfReplay world) → AfterCut (is_cut_in replayed) before.errors told
      → AfterAsked (finished_in replayed) path mid new (record before { errors = told }) after first
      → status ≡ cut_status (is_cut_in replayed) first
      → AfterReplay view world saved (old.octets world) old new before after status
  replay_done view replayed told first said of cut done so = inr (
    apart,
    (
      replayed,
      told,
      first,
      subst (λ z. IfSome z (λ octets. ReplayFileResult view octets replayed)) (octets_then old mid saved world is) said,
      of,
      cut,
      subst (λ (z : Files).
          AfterAsked (finished_in replayed) saved z new (record before { errors = told }) after first) is
          (subst (λ (z : Option (List ℕ)).
          AfterAsked (finished_in replayed) z mid new (record before { errors = told }) after first) same done),
      so,
    ),
  )

-- ---- asking with a trace

-- hosts were asked, what is known was printed and saved, and the trace was ended
ended : {W : Type 0} (contents : W → Option (List ℕ)) (choice : ChoiceTexts) (search : SearchTexts) (view : View)
    (trace : Option (List ℕ)) (world : List ℕ) (saved file : Option (List ℕ)) (old begun new : Files)
    (before after : Outputs) (status : Status) (asked : Result (Answered W) Fault)
    → IfSome file (λ octets. AskFileResult choice search view octets (finished_of asked))
    → IfErr asked (IsOfAsking trace world) → IsTraceBegun trace (begun_in old saved) begun asked
    → IfOk asked (λ answered.
    IsTracedFile contents begun.steps choice search file answered.finished answered.trace)
    → ConcludeResult contents asked saved trace begun new before after status
    → IsTracedAsked choice search view trace world saved file old new before after status
ended contents choice search view trace world saved file old begun new before after status (Ok answered) says of
    begins traced done = record {
      asked = Ok answered.finished;
      begun = begun;
      saving = done.0;
      between = done.1;
      first = done.2;
      says = says;
      faults = tt;
      begins = as_finished trace begins;
      done = done.3;
      closes = (traced.entries, traced.are, done.4 traced.entries traced.logs);
    }
  where
    as_finished : (trace : Option (List ℕ)) → IsTraceBegun trace (begun_in old saved) begun (Ok answered)
        → IsTraceBegun trace (begun_in old saved) begun (Ok answered.finished)
    as_finished None h = h
    as_finished (Some path) h = h
ended {W = W} contents choice search view trace world saved file old begun new before after status (Err f) says of
    begins traced done = record {
      asked = Err f;
      begun = begun;
      saving = new;
      between = after.errors;
      first = status;
      says = says;
      faults = of;
      begins = as_fault trace begins;
      done = done;
      closes = (refl, refl, refl);
    }
  where
    as_fault : (trace : Option (List ℕ)) → IsTraceBegun {A = Answered W} trace (begun_in old saved) begun (Err f)
        → IsTraceBegun {A = Finished} trace (begun_in old saved) begun (Err f)
    as_fault None h = h
    as_fault (Some path) h = h

pub traced_done : {W : Type 0} (contents : W → Option (List ℕ)) (choice : ChoiceTexts) (search : SearchTexts)
    (view : View) (trace : Option (List ℕ)) (world : List ℕ) (saved path : Option (List ℕ)) (old mid begun new : Files)
    (before after : Outputs) (status : Status) (asked : Result (Answered W) Fault)
    → IsTraceApart old world saved trace → AreApart old world saved → mid ≡ begun_in old saved → path ≡ saved
    → IfSome (mid.octets world) (λ octets. AskFileResult choice search view octets (finished_of asked))
    → IfErr asked (IsOfAsking trace world) → IsTraceBegun trace mid begun asked
    → IfOk asked (λ answered.
    IsTracedFile contents begun.steps choice search (mid.octets world) answered.finished answered.trace)
    → ConcludeResult contents asked path trace begun new before after status
    → AfterTracedAsk choice search view trace world saved (old.octets world) old new before after status
traced_done {W = W} contents choice search view trace world saved path old mid begun new before after status asked
    trace_apart apart is same says of begins traced done = inr (
      trace_apart,
      apart,
      ended contents choice search view trace world saved (old.octets world) old begun new before after status asked
          (subst (λ z. IfSome z (λ octets. AskFileResult choice search view octets (finished_of asked))) there says) of
          (subst (λ (z : Files). IsTraceBegun trace z begun asked) is begins)
          (subst (λ (z : Option (List ℕ)). IfOk asked (λ answered.
          IsTracedFile contents begun.steps choice search z answered.finished answered.trace)) there traced)
          (subst (λ (z : Option (List ℕ)). ConcludeResult contents asked z trace begun new before after status) same
          done),
    )
  where
    there : mid.octets world ≡ old.octets world
    there = octets_then old mid saved world is

-- what is known was printed and saved, and then the trace is ended
pub trace_ended : {W : Type 0} (contents : W → Option (List ℕ)) (asked : Result (Answered W) Fault)
    (answered : Answered W) (saved trace : Option (List ℕ)) (old saving new : Files) (before : Outputs)
    (output between errors : Device) (first status : Status) → asked ≡ Ok answered
    → AfterAsked (Ok answered.finished) saved old saving before (record { output = output; errors = between }) first
    → ((entries : List TraceEntry) → HasLogged contents saving.steps entries answered.trace
    → AfterClosing trace entries saving new between errors first status)
    → ConcludeResult contents asked saved trace old new before (record { output = output; errors = errors }) status
trace_ended {W = W} contents asked answered saved trace old saving new before output between errors first status is
    done closing =
    let after : Outputs = record { output = output; errors = errors } in
    let all : ConcludeResult contents (Ok answered) saved trace old new before after status = (
      saving,
      between,
      first,
      done,
      λ entries has. closing entries (logged_later contents old.steps saving.steps entries answered.trace
          (asked_later (Ok answered.finished) saved old saving before (record { output = output; errors = between })
          first done) has),
    ) in
    subst (λ (z : Result (Answered W) Fault). ConcludeResult contents z saved trace old new before after status)
    (sym is) all

-- ---- nothing was begun

module _ (world : List ℕ) (saved : Option (List ℕ)) (old new : Files) (before after : Outputs) (status : Status)
    (f : Fault) (h : IsSavingFault old world saved f × (new ≡ old)) (silent : after.output ≡ before.output)
    (told : AfterEnd (Err f) before.errors after.errors status) where
  pub unbegun_command : (says : List ℕ → Result Finished Fault → Type 0) (faults : List ℕ → Fault → Type 0)
      (file : Option (List ℕ)) → AfterCommand says faults world saved file old new before after status
  unbegun_command says faults file = inl (f, h.0, h.1, silent, told)

  pub unbegun_union : (choice : ChoiceTexts) (given : LimitOptions) (options : SearchOptions) (view : View)
      (file : Option (List ℕ))
      → AfterUnionAsk choice given options view None world saved file old new before after status
  unbegun_union choice given options view file = inl (f, h.0, h.1, silent, told)

  pub unbegun_replay : (view : View) (file : Option (List ℕ))
      → AfterReplay view world saved file old new before after status
  unbegun_replay view file = inl (f, h.0, h.1, silent, told)

  pub unbegun_ask : (choice : ChoiceTexts) (search : SearchTexts) (view : View) (trace file : Option (List ℕ))
      → AfterTracedAsk choice search view trace world saved file old new before after status
  unbegun_ask choice search view trace file = inl (f, inr h.0, h.1, silent, told)

-- a path of the trace is that of another file
pub over_ask : (choice : ChoiceTexts) (search : SearchTexts) (view : View) (trace : Option (List ℕ)) (world : List ℕ)
    (saved file : Option (List ℕ)) (old : Files) (before after : Outputs) (status : Status) (f : Fault)
    → TraceApartResult old world saved trace (Err f) → after.output ≡ before.output
    → AfterEnd (Err f) before.errors after.errors status
    → AfterTracedAsk choice search view trace world saved file old old before after status
over_ask choice search view trace world saved file old before after status f over silent told =
    inl (f, inl over, refl, silent, told)

-- a trace that is refused is not played: nothing is told of its end
pub unplayed_done : (world : List ℕ) (saved path : Option (List ℕ)) (old mid new : Files) (before after : Outputs)
    (status : Status) → AreApart old world saved → mid ≡ begun_in old saved → path ≡ saved → (view : View) (f : Fault)
    → IfSome (mid.octets world) (λ octets. ReplayFileResult view octets (Err f)) → IsOfReplay world f
    → AfterAsked (Err f) path mid new before after status
    → AfterReplay view world saved (old.octets world) old new before after status
unplayed_done world saved path old mid new before after status apart is same view f said of done =
    replay_done world saved path old mid new before after status apart is same view (Err f) before.errors status said
    of refl done refl
