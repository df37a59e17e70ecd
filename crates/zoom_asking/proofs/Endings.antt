-- How connections end: one that is over is Closed or Failed, and on one that is talked with no message is waiting.
use Rattle.std.proofs.Common.{◌≡◌, ◌∙◌, ◌⊎◌, inl, inr, sym, ap, subst, ℕ, Bool, true, List, [], ◌∷◌, Option, None, refl}
use Rattle.std.specs.Prelude.{false, is_some}
use Rattle.zoom_questions.specs.declared.question.Question.{Question}
use Rattle.zoom_questions.specs.declared.question.MetaSettings.{MetaSettings}
use Rattle.zoom_pool.specs.declared.state.State.{State}
use Rattle.zoom_pool.specs.declared.state.State.TheVariants as states
use Rattle.zoom_pool.specs.declared.state.Reason.TheVariants as reasons
use Rattle.zoom_pool.specs.States.{is_stopped}
use Rattle.zoom_pool.specs.Transcripts as pool
use Rattle.zoom_pool.specs.Transcripts.{Transcript, IsTranscript, state_at}
use Rattle.zoom_pool.specs.Laws.{OneInput}
use Rattle.zoom_clock.specs.declared.limits.Limits.{Limits}
use Rattle.zoom_clock.specs.declared.signal.Ending.{Ending}
use Rattle.zoom_clock.specs.declared.signal.Ending.TheVariants as endings
use Rattle.zoom_clock.specs.declared.signal.Signal.{Signal}
use Rattle.zoom_clock.specs.declared.signal.Signal.TheVariants as signals
use Rattle.zoom_clock.specs.declared.signal.Condition.TheVariants as conditions
use Rattle.zoom_clock.specs.declared.stage.Stage.{Stage}
use Rattle.zoom_clock.specs.declared.stage.Stage.TheVariants.{NotChosen, Resolving, Connecting, Talking, Over}
use Rattle.zoom_clock.specs.declared.course.Course.{Course}
use Rattle.zoom_clock.specs.declared.talk.Talk.{Talk}
use Rattle.zoom_clock.specs.Courses.{event, ruling_of, time_of}
use Rattle.zoom_clock.specs.Stages.{ruling, first_stage}
use Rattle.zoom_asking.specs.declared.inquiry.AskedHost.{AskedHost}
use Rattle.zoom_asking.specs.declared.change.Kind.TheVariants as kinds
use Rattle.zoom_asking.specs.Changes.{change_between, change_of}
use Rattle.zoom_asking.specs.Inquiries.{Inquiry, Event, Told, Came, Noted}
use Rattle.zoom_asking.specs.Talks.{IsDriven, IsCondition, IsClosed, condition_in}
use Rattle.zoom_asking.specs.Hosts.{AskedConnection, AskedAfter, AfterChange, IsNoted, IsFed, IsTold}
use Rattle.zoom_asking.specs.Laws.{IsReported, AreReported, HasEnded}
use Rattle.zoom_asking.proofs.Drying.{IsDriedUp, stop_ends, end_ends, taken_dries, first_dries}
use Rattle.zoom_asking.proofs.Rulings.{FromConnecting, connecting_leads, resolving_leads, IsEndBy, FromTalking, talking_leads, stage_next}

-- ---- the events of a connection at a stage

-- before it has connected, it has none; while it is talked with, no message is waiting; then it is Closed or Failed
abbrev pub FitsStage : MetaSettings → Stage → List pool.Event → Type 0
FitsStage s NotChosen events = events ≡ []
FitsStage s Resolving events = events ≡ []
FitsStage s (Connecting a) events = events ≡ []
FitsStage s (Talking t) events = IsDriedUp s events
FitsStage s (Over ending) events = HasEnded s events

-- what the signal says of octets is how the connection stands after these events
abbrev IsFaithful : MetaSettings → List pool.Event → Signal → Type 0
IsFaithful s events (signals.Octets condition) = IsCondition s events condition
IsFaithful s events _ = Unit {0}

condition_finished : (state : State) → conditions.Finished ≡ condition_in state → is_stopped state ≡ true
condition_finished states.Fresh is = absurd cc
condition_finished states.Initialising is = absurd cc
condition_finished (states.Ready v3 concurrent named) is = absurd cc
condition_finished states.Closing is = absurd cc
condition_finished states.Closed is = refl
condition_finished (states.Failed reason) is = refl

-- Octets have ended it, so it is Closed or Failed.
finished_ends : (s : MetaSettings) (events : List pool.Event) (what : Signal) → IsFaithful s events what
    → what ≡ signals.Octets conditions.Finished → HasEnded s events
finished_ends s events what faithful is p t =
    condition_finished (state_at p) (subst (IsFaithful s events) is faithful p t)

-- A connection that is talked with was closed.
closed_ends : OneInput → (s : MetaSettings) (question : Question) (what : Signal) (ending : Ending)
    (events new : List pool.Event) → IsEndBy what ending → IsFaithful s events what → IsDriedUp s events
    → IsClosed ending s question events new → HasEnded s new
closed_ends meeting s question what endings.Connect events new by faithful dry is =
    subst (HasEnded s) (sym is) (stop_ends s reasons.Connect events)
closed_ends meeting s question what endings.Read events new by faithful dry is =
    subst (HasEnded s) (sym is) (stop_ends s reasons.Read events)
closed_ends meeting s question what endings.Write events new by faithful dry is =
    subst (HasEnded s) (sym is) (stop_ends s reasons.Write events)
closed_ends meeting s question what endings.Turns events new by faithful dry is =
    subst (HasEnded s) (sym is) (stop_ends s reasons.Turns events)
closed_ends meeting s question what endings.InputEnded events new by faithful dry is =
    subst (HasEnded s) (sym is) (end_ends meeting s events dry)
closed_ends meeting s question what endings.Finished events new by faithful dry is =
    subst (HasEnded s) (sym is) (finished_ends s events what faithful by)

-- ---- a signal

-- What a change of the stage brings fits the stage after it.
module _ (meeting : OneInput) (s : MetaSettings) (question : Question) (what : Signal) (events new : List pool.Event)
    (faithful : IsFaithful s events what)
  where
    abbrev Brings : Stage → Stage → Type 0
    Brings stage next = AfterChange (change_between stage next) s question events new

    stays : (stage : Stage) → Brings stage stage → FitsStage s stage events → FitsStage s stage new
    stays NotChosen same fits = same ∙ fits
    stays Resolving same fits = same ∙ fits
    stays (Connecting a) same fits = same ∙ fits
    stays (Talking t) same fits = subst (IsDriedUp s) (sym same) fits
    stays (Over ending) same fits = subst (HasEnded s) (sym same) fits

    still : (stage next : Stage) → next ≡ stage → Brings stage next → FitsStage s stage events → FitsStage s next new
    still stage next is brings fits =
        subst (λ z. FitsStage s z new) (sym is) (stays stage (subst (Brings stage) is brings) fits)

    connecting : (next : Stage) → FromConnecting next
        → AfterChange (change_of kinds.Connecting next) s question events new → events ≡ [] → FitsStage s next new
    connecting NotChosen from brings none = absurd from
    connecting Resolving from brings none = brings ∙ none
    connecting (Connecting b) from brings none = brings ∙ none
    connecting (Talking t) from brings none =
        first_dries s question new (subst (λ z. IsDriven s question z new) none brings)
    connecting (Over endings.Connect) from brings none =
        subst (HasEnded s) (sym brings) (stop_ends s reasons.Connect events)
    connecting (Over endings.Read) from brings none =
        subst (HasEnded s) (sym brings) (stop_ends s reasons.Read events)
    connecting (Over endings.Write) from brings none =
        subst (HasEnded s) (sym brings) (stop_ends s reasons.Write events)
    connecting (Over endings.Turns) from brings none =
        subst (HasEnded s) (sym brings) (stop_ends s reasons.Turns events)
    connecting (Over endings.InputEnded) from brings none = absurd from
    connecting (Over endings.Finished) from brings none = absurd from

    talking : (t : Talk) (next : Stage) → FromTalking what next → Brings (Talking t) next → IsDriedUp s events
        → FitsStage s next new
    talking t NotChosen from brings dry = absurd from
    talking t Resolving from brings dry = absurd from
    talking t (Connecting a) from brings dry = absurd from
    talking t (Talking u) from brings dry = subst (IsDriedUp s) (sym brings) dry
    talking t (Over ending) from brings dry =
        closed_ends meeting s question what ending events new from faithful dry brings

    ruled : (limits : Limits) (start now : ℕ) (wanted : Bool) (stage next : Stage)
        → (next ≡ stage) ⊎ (next ≡ (ruling limits start now wanted what stage).stage) → Brings stage next
        → FitsStage s stage events → FitsStage s next new
    ruled limits start now wanted stage next (inl is) brings fits = still stage next is brings fits
    ruled limits start now wanted NotChosen next (inr is) brings fits = still NotChosen next is brings fits
    ruled limits start now wanted Resolving next (inr is) brings fits =
        connecting next (subst FromConnecting (sym is) (resolving_leads now what)) brings fits
    ruled limits start now wanted (Connecting a) next (inr is) brings fits =
        connecting next (subst FromConnecting (sym is) (connecting_leads limits start now wanted what a)) brings fits
    ruled limits start now wanted (Talking t) next (inr is) brings fits =
        talking t next (subst (FromTalking what) (sym is) (talking_leads now wanted what t)) brings fits
    ruled limits start now wanted (Over ending) next (inr is) brings fits = still (Over ending) next is brings fits

-- the stage stays, or is that of the ruling
next_stage : (s : MetaSettings) (question : Question) (at : ℕ) (what : Signal) (events : List pool.Event)
    (old new : AskedConnection) → IsNoted s question at what events old new
    → (new.course.stage ≡ old.course.stage) ⊎ (new.course.stage ≡ (ruling_of (event at what) old.course).stage)
next_stage s question at what events old new noted =
    subst (λ (z : Course). (z.stage ≡ old.course.stage) ⊎ (z.stage ≡ (ruling_of (event at what) old.course).stage))
    (sym noted.course) (stage_next (event at what) old.course)

noted_fits : OneInput → (s : MetaSettings) (question : Question) (at : ℕ) (what : Signal) (events : List pool.Event)
    (old new : AskedConnection) → IsFaithful s events what → IsNoted s question at what events old new
    → FitsStage s old.course.stage events → FitsStage s new.course.stage new.events
noted_fits meeting s question at what events old new faithful noted fits =
    ruled meeting s question what events new.events faithful old.course.limits old.course.start
    (time_of (event at what) old.course) old.course.wanted old.course.stage new.course.stage
    (next_stage s question at what events old new noted) noted.changed fits

-- ---- what was told

faithful_told : (s : MetaSettings) (events : List pool.Event) (what : Signal) → IsReported (Noted what)
    → IsFaithful s events what
faithful_told s events (signals.Octets condition) reported = absurd reported
faithful_told s events (signals.Resolved addresses) reported = tt
faithful_told s events (signals.Connected k) reported = tt
faithful_told s events (signals.Unreachable k) reported = tt
faithful_told s events (signals.NoSocket k) reported = tt
faithful_told s events signals.Taken reported = tt
faithful_told s events signals.End reported = tt
faithful_told s events signals.Unreadable reported = tt
faithful_told s events signals.Unwritable reported = tt
faithful_told s events signals.Turn reported = tt
faithful_told s events signals.GiveUp reported = tt
faithful_told s events signals.Tick reported = tt

abbrev Fits : MetaSettings → AskedConnection → Type 0
Fits s h = FitsStage s h.course.stage h.events

fed_fits : OneInput → (s : MetaSettings) (question : Question) (at : ℕ) (piece : List ℕ) (old new : AskedConnection)
    (stage : Stage) → old.course.stage ≡ stage → IsFed s question at piece stage old new → Fits s old → Fits s new
fed_fits meeting s question at piece old new NotChosen is same fits = subst (Fits s) (sym same) fits
fed_fits meeting s question at piece old new Resolving is same fits = subst (Fits s) (sym same) fits
fed_fits meeting s question at piece old new (Connecting a) is same fits = subst (Fits s) (sym same) fits
fed_fits meeting s question at piece old new (Over ending) is same fits = subst (Fits s) (sym same) fits
fed_fits meeting s question at piece old new (Talking t) is had fits =
    noted_fits meeting s question at (signals.Octets had.condition) had.heard old new had.stands had.noted
    (subst (λ z. FitsStage s z had.heard) (sym is) (taken_dries meeting had.hears))

told_fits : OneInput → (s : MetaSettings) (question : Question) (at : ℕ) (told : Told) (old new : AskedConnection)
    → IsReported told → IsTold s question at told old new → Fits s old → Fits s new
told_fits meeting s question at (Came piece) old new reported fed fits =
    fed_fits meeting s question at piece old new old.course.stage refl fed fits
told_fits meeting s question at (Noted what) old new reported noted fits =
    noted_fits meeting s question at what old.events old new (faithful_told s old.events what reported) noted fits

first_fits : (s : MetaSettings) (chosen : Bool) → FitsStage s (first_stage chosen) []
first_fits s true = refl
first_fits s false = refl

-- The events of a connection fit its stage, after each history.
pub host_fits : OneInput → (i : Inquiry) (host : Option AskedHost) (question : Question) (es : List Event)
    (h : AskedConnection) → AreReported es → AskedAfter i host question es h → Fits i.settings h
host_fits meeting i host question [] h reported is =
    subst (Fits i.settings) (sym is) (first_fits i.settings (is_some host))
host_fits meeting i host question (e ∷ es) h reported after =
    told_fits meeting i.settings question e.at e.told after.0 h reported.0 after.2
    (host_fits meeting i host question es after.0 reported.1 after.1)

-- A connection that is over is Closed or Failed.
pub over_ends : OneInput → (i : Inquiry) (host : Option AskedHost) (question : Question) (es : List Event)
    (h : AskedConnection) (ending : Ending) → AreReported es → AskedAfter i host question es h
    → h.course.stage ≡ Over ending → HasEnded i.settings h.events
over_ends meeting i host question es h ending reported after is =
    subst (λ z. FitsStage i.settings z h.events) is (host_fits meeting i host question es h reported after)

-- ---- a connection that is not chosen

abbrev IsUnasked : AskedConnection → Type 0
IsUnasked h = (h.events ≡ []) × (h.course.stage ≡ NotChosen)

noted_unasked : (s : MetaSettings) (question : Question) (at : ℕ) (what : Signal) (old new : AskedConnection)
    → IsNoted s question at what old.events old new → IsUnasked old → IsUnasked new
noted_unasked s question at what old new noted u =
    (same ∙ u.0, by (next_stage s question at what old.events old new noted))
  where
    same : new.events ≡ old.events
    same =
        subst (λ z. AfterChange (change_between z new.course.stage) s question old.events new.events) u.1 noted.changed

    by : (new.course.stage ≡ old.course.stage) ⊎ (new.course.stage ≡ (ruling_of (event at what) old.course).stage)
        → new.course.stage ≡ NotChosen
    by (inl is) = is ∙ u.1
    by (inr is) = is ∙ ap (λ z. (ruling old.course.limits old.course.start (time_of (event at what) old.course)
        old.course.wanted what z).stage) u.1

told_unasked : (s : MetaSettings) (question : Question) (at : ℕ) (told : Told) (old new : AskedConnection)
    → IsTold s question at told old new → IsUnasked old → IsUnasked new
told_unasked s question at (Came piece) old new fed u =
    subst IsUnasked (sym (subst (λ z. IsFed s question at piece z old new) u.1 fed)) u
told_unasked s question at (Noted what) old new noted u = noted_unasked s question at what old new noted u

pub unasked : (i : Inquiry) (question : Question) (es : List Event) (h : AskedConnection)
    → AskedAfter i None question es h
    → (h.events ≡ []) × (h.course.stage ≡ NotChosen)
unasked i question [] h is = subst IsUnasked (sym is) (refl, refl)
unasked i question (e ∷ es) h after =
    told_unasked i.settings question e.at e.told after.0 h after.2 (unasked i question es after.0 after.1)
