-- What a signal makes of a connection that exchanges octets with a target alone.
use Rattle.std.proofs.Common.{◌≡◌, ◌∙◌, ◌⊎◌, inl, inr, sym, ap, subst, ℕ, Bool, true, false, List, [], ◌∷◌, ◌++◌, refl}
use Rattle.zoom_questions.specs.declared.question.Question.{Question}
use Rattle.zoom_questions.specs.declared.question.MetaSettings.{MetaSettings}
use Rattle.zoom_pool.specs.declared.state.State.{State}
use Rattle.zoom_pool.specs.declared.state.State.TheVariants as states
use Rattle.zoom_pool.specs.declared.state.Reason.{Reason}
use Rattle.zoom_pool.specs.declared.state.Reason.TheVariants as reasons
use Rattle.zoom_pool.specs.States.{is_stopped}
use Rattle.zoom_pool.specs.Transcripts as pool
use Rattle.zoom_pool.specs.Transcripts.{Transcript, IsTranscript, Fed, Stopped, empty_transcript, state_at, past_of, fed}
use Rattle.zoom_pool.specs.Metas.{settings_of}
use Rattle.zoom_pool.specs.Hosts.{HostState as ServingEnd, HostEvent, Holdings, handed_out}
use Rattle.zoom_clock.specs.declared.limits.Limits.{Limits}
use Rattle.zoom_clock.specs.declared.signal.Ending.{Ending}
use Rattle.zoom_clock.specs.declared.signal.Ending.TheVariants as endings
use Rattle.zoom_clock.specs.declared.signal.Signal.{Signal}
use Rattle.zoom_clock.specs.declared.signal.Signal.TheVariants as signals
use Rattle.zoom_clock.specs.declared.signal.Condition.{Condition}
use Rattle.zoom_clock.specs.declared.signal.Condition.TheVariants as conditions
use Rattle.zoom_clock.specs.declared.stage.Stage.{Stage}
use Rattle.zoom_clock.specs.declared.stage.Stage.TheVariants.{NotChosen, Resolving, Connecting, Talking, Over}
use Rattle.zoom_clock.specs.declared.course.Course.{Course}
use Rattle.zoom_clock.specs.declared.talk.Talk.{Talk}
use Rattle.zoom_clock.specs.Courses.{event, ruling_of, step, time_of}
use Rattle.zoom_clock.specs.Stages.{ruling, hearing}
use Rattle.zoom_asking.specs.Changes.{change_between}
use Rattle.zoom_asking.specs.Inquiries.{Noted}
use Rattle.zoom_asking.specs.Talks.{IsDriven, condition_in}
use Rattle.zoom_asking.specs.Hosts.{AskedConnection, AfterChange, IsNoted, HasHeard}
use Rattle.zoom_asking.specs.Laws.{IsReported}
use Rattle.zoom_asking.proofs.Rulings.{FromConnecting, connecting_leads, resolving_leads, FromTalking, talking_leads, stage_next}
use Rattle.zoom_asking_laws.proofs.Readings.{AreReadIn}
use Rattle.zoom_asking_laws.proofs.Exchanges.{IsUnderway, IsExchanged, Laws, opened, heard}
use Rattle.zoom_asking_laws.proofs.Closings.{IsAnsweredIfClosed, IsClosedAndAnswered, none_answered, stopped_answered, over_answered, going_answered, ended_answered}

-- whether a connection that stands so is over
going_on : (state : State) → conditions.Going ≡ condition_in state → is_stopped state ≡ false
going_on states.Fresh is = refl
going_on states.Initialising is = refl
going_on (states.Ready v3 concurrent named) is = refl
going_on states.Closing is = refl
going_on states.Closed is = absurd cc
going_on (states.Failed reason) is = absurd cc

leaving_on : (state : State) → conditions.Leaving ≡ condition_in state → is_stopped state ≡ false
leaving_on states.Fresh is = refl
leaving_on states.Initialising is = refl
leaving_on (states.Ready v3 concurrent named) is = refl
leaving_on states.Closing is = refl
leaving_on states.Closed is = absurd cc
leaving_on (states.Failed reason) is = absurd cc

finished_over : (state : State) → conditions.Finished ≡ condition_in state → is_stopped state ≡ true
finished_over states.Fresh is = absurd cc
finished_over states.Initialising is = absurd cc
finished_over (states.Ready v3 concurrent named) is = absurd cc
finished_over states.Closing is = absurd cc
finished_over states.Closed is = refl
finished_over (states.Failed reason) is = refl

-- octets of a connection that is talked with always tell the clock something
heard_course : (at : ℕ) (condition : Condition) (t : Talk) (p : Course) → p.stage ≡ Talking t
    → (step (event at (signals.Octets condition)) p).stage
    ≡ (hearing (time_of (event at (signals.Octets condition)) p) condition t).stage
heard_course at condition t p is = rw is refl

-- octets are not noted by themselves
no_octets : (what : Signal) (condition : Condition) → IsReported (Noted what) → what ≡ signals.Octets condition → ⊥
no_octets what condition reported is = subst (λ z. IsReported (Noted z)) is reported

-- the stage stays, or is that of the ruling
next_stage : (s : MetaSettings) (question : Question) (at : ℕ) (what : Signal) (events : List pool.Event)
    (old new : AskedConnection) → IsNoted s question at what events old new
    → (new.course.stage ≡ old.course.stage) ⊎ (new.course.stage ≡ (ruling_of (event at what) old.course).stage)
next_stage s question at what events old new noted =
    subst (λ (z : Course). (z.stage ≡ old.course.stage) ⊎ (z.stage ≡ (ruling_of (event at what) old.course).stage))
    (sym noted.course) (stage_next (event at what) old.course)

-- ---- what fits an ending

-- its messages closed a connection that is Finished; else it was answered if it is Closed
abbrev pub FitsEnd : MetaSettings → Holdings → Ending → List pool.Event → Type 0
FitsEnd s holdings endings.Finished events = IsClosedAndAnswered s holdings events
FitsEnd s holdings _ events = IsAnsweredIfClosed s holdings events

-- if it is Closed, it was answered
end_answered : (s : MetaSettings) (holdings : Holdings) (ending : Ending) (events : List pool.Event)
    → FitsEnd s holdings ending events → IsAnsweredIfClosed s holdings events
end_answered s holdings endings.Connect events fits = fits
end_answered s holdings endings.Read events fits = fits
end_answered s holdings endings.Write events fits = fits
end_answered s holdings endings.Turns events fits = fits
end_answered s holdings endings.InputEnded events fits = fits
end_answered s holdings endings.Finished events fits = λ p t closed. (fits p t).1

-- ---- the exchange at each stage

module _ (s : MetaSettings) (question : Question) (holdings : Holdings) (xs : List HostEvent) (end : ServingEnd) where
  -- before it has connected it has no events
  abbrev pub IsQuiet : List pool.Event → Type 0
  IsQuiet events =
      (events ≡ []) × IsUnderway s holdings xs end events (empty_transcript (settings_of s))

  -- the exchange goes on
  abbrev pub GoesOn : List pool.Event → Type 0
  GoesOn events =
      (p : Transcript) × IsExchanged s question holdings xs end events p × (is_stopped (state_at p) ≡ false)

  abbrev pub FitsStage : Stage → List pool.Event → Type 0
  FitsStage NotChosen events = IsQuiet events
  FitsStage Resolving events = IsQuiet events
  FitsStage (Connecting a) events = IsQuiet events
  FitsStage (Talking t) events = GoesOn events
  FitsStage (Over ending) events = FitsEnd s holdings ending events

  abbrev pub Fits : AskedConnection → Type 0
  Fits h = FitsStage h.course.stage h.events

module _ (laws : Laws) (s : MetaSettings) (question : Question) (holdings : Holdings) (xs : List HostEvent)
    (end : ServingEnd)
  where
    abbrev FitsAt : Stage → List pool.Event → Type 0
    FitsAt stage events = FitsStage s question holdings xs end stage events

    abbrev Quiet : List pool.Event → Type 0
    Quiet events = IsQuiet s question holdings xs end events

    abbrev Going : List pool.Event → Type 0
    Going events = GoesOn s question holdings xs end events

    abbrev Answered : List pool.Event → Type 0
    Answered events = IsAnsweredIfClosed s holdings events

    -- ---- at any stage, a connection that is Closed was answered

    quiet_answered : (events : List pool.Event) → Quiet events → Answered events
    quiet_answered events quiet = subst Answered (sym quiet.0) (none_answered s holdings)

    pub stage_answered : (stage : Stage) (events : List pool.Event) → FitsAt stage events → Answered events
    stage_answered NotChosen events fits = quiet_answered events fits
    stage_answered Resolving events fits = quiet_answered events fits
    stage_answered (Connecting a) events fits = quiet_answered events fits
    stage_answered (Talking t) events fits =
        going_answered laws s question holdings xs end events fits.0 fits.1 fits.2
    stage_answered (Over ending) events fits = end_answered s holdings ending events fits

    -- ---- what a signal makes of it

    module _ (what : Signal) (events new : List pool.Event) where
      abbrev Brings : Stage → Stage → Type 0
      Brings stage next = AfterChange (change_between stage next) s question events new

      stays : (stage : Stage) → Brings stage stage → FitsAt stage events → FitsAt stage new
      stays NotChosen same fits = subst (FitsAt NotChosen) (sym same) fits
      stays Resolving same fits = subst (FitsAt Resolving) (sym same) fits
      stays (Connecting a) same fits = subst (FitsAt (Connecting a)) (sym same) fits
      stays (Talking t) same fits = subst (FitsAt (Talking t)) (sym same) fits
      stays (Over ending) same fits = subst (FitsAt (Over ending)) (sym same) fits

      still : (stage next : Stage) → next ≡ stage → Brings stage next → FitsAt stage events → FitsAt next new
      still stage next is brings fits =
          subst (λ z. FitsAt z new) (sym is) (stays stage (subst (Brings stage) is brings) fits)

      stopped : (reason : Reason) → new ≡ Stopped reason ∷ events → Answered new
      stopped reason is = subst Answered (sym is) (stopped_answered s holdings reason events)

      connects : AreReadIn (settings_of s) new → IsDriven s question events new → Quiet events → Going new
      connects reads drives quiet =
          opened laws s question holdings xs end new (subst (λ z. IsDriven s question z new) quiet.0 drives) reads
          (subst (λ z. IsUnderway s holdings xs end z (empty_transcript (settings_of s))) quiet.0 quiet.1)

      connecting : AreReadIn (settings_of s) new → (next : Stage) → FromConnecting next → Brings Resolving next
          → Quiet events → FitsAt next new
      connecting reads NotChosen from brings quiet = absurd from
      connecting reads Resolving from brings quiet = subst Quiet (sym brings) quiet
      connecting reads (Connecting a) from brings quiet = subst Quiet (sym brings) quiet
      connecting reads (Talking t) from brings quiet = connects reads brings quiet
      connecting reads (Over endings.Connect) from brings quiet = stopped reasons.Connect brings
      connecting reads (Over endings.Read) from brings quiet = stopped reasons.Read brings
      connecting reads (Over endings.Write) from brings quiet = stopped reasons.Write brings
      connecting reads (Over endings.Turns) from brings quiet = stopped reasons.Turns brings
      connecting reads (Over endings.InputEnded) from brings quiet = absurd from
      connecting reads (Over endings.Finished) from brings quiet = absurd from

      talking : (what ≡ signals.Octets conditions.Finished → ⊥) → (t : Talk) (next : Stage) → FromTalking what next
          → Brings (Talking t) next → Going events → FitsAt next new
      talking other t NotChosen from brings going = absurd from
      talking other t Resolving from brings going = absurd from
      talking other t (Connecting a) from brings going = absurd from
      talking other t (Talking u) from brings going = subst Going (sym brings) going
      talking other t (Over endings.Connect) from brings going = stopped reasons.Connect brings
      talking other t (Over endings.Read) from brings going = stopped reasons.Read brings
      talking other t (Over endings.Write) from brings going = stopped reasons.Write brings
      talking other t (Over endings.Turns) from brings going = stopped reasons.Turns brings
      talking other t (Over endings.InputEnded) from brings going =
          subst Answered (sym brings)
          (ended_answered laws s question holdings xs end events going.0 going.1 going.2)
      talking other t (Over endings.Finished) from brings going = absurd (other from)

      ruled : AreReadIn (settings_of s) new → (what ≡ signals.Octets conditions.Finished → ⊥)
          → (limits : Limits) (start now : ℕ) (wanted : Bool) (stage next : Stage)
          → (next ≡ stage) ⊎ (next ≡ (ruling limits start now wanted what stage).stage) → Brings stage next
          → FitsAt stage events → FitsAt next new
      ruled reads other limits start now wanted stage next (inl is) brings fits = still stage next is brings fits
      ruled reads other limits start now wanted NotChosen next (inr is) brings fits =
          still NotChosen next is brings fits
      ruled reads other limits start now wanted Resolving next (inr is) brings fits =
          connecting reads next (subst FromConnecting (sym is) (resolving_leads now what)) brings fits
      ruled reads other limits start now wanted (Connecting a) next (inr is) brings fits =
          connecting reads next (subst FromConnecting (sym is) (connecting_leads limits start now wanted what a))
          brings fits
      ruled reads other limits start now wanted (Talking t) next (inr is) brings fits =
          talking other t next (subst (FromTalking what) (sym is) (talking_leads now wanted what t)) brings fits
      ruled reads other limits start now wanted (Over ending) next (inr is) brings fits =
          still (Over ending) next is brings fits

    pub noted_fits : (at : ℕ) (what : Signal) (old new : AskedConnection) → IsReported (Noted what)
        → IsNoted s question at what old.events old new → AreReadIn (settings_of s) new.events
        → Fits s question holdings xs end old → Fits s question holdings xs end new
    noted_fits at what old new reported noted reads fits =
        ruled what old.events new.events reads (no_octets what conditions.Finished reported) old.course.limits
        old.course.start (time_of (event at what) old.course) old.course.wanted old.course.stage new.course.stage
        (next_stage s question at what old.events old new noted) noted.changed fits

    -- ---- octets came

    after_octets : (t : Talk) (events new : List pool.Event) (now : ℕ) (condition : Condition) (next : Stage)
        (p : Transcript)
        → IsExchanged s question holdings xs end events p → condition ≡ condition_in (state_at p)
        → next ≡ (hearing now condition t).stage
        → AfterChange (change_between (Talking t) next) s question events new → FitsAt next new
    after_octets t events new now conditions.Finished next p e stands is brings =
        let brought : new ≡ events =
        subst (λ z. AfterChange (change_between (Talking t) z) s question events new) is brings in
        subst (λ z. FitsAt z new) (sym is) (subst (IsClosedAndAnswered s holdings) (sym brought)
        (over_answered laws s question holdings xs end events p e (finished_over (state_at p) stands)))
    after_octets t events new now conditions.Going next p e stands is brings =
        let what : Signal = signals.Octets conditions.Going in
        talking what events new (λ f. absurd cc) t next
        (subst (FromTalking what) (sym is) (talking_leads now true what t)) brings
        (p, e, going_on (state_at p) stands)
    after_octets t events new now conditions.Leaving next p e stands is brings =
        let what : Signal = signals.Octets conditions.Leaving in
        talking what events new (λ f. absurd cc) t next
        (subst (FromTalking what) (sym is) (talking_leads now true what t)) brings
        (p, e, leaving_on (state_at p) stands)

    pub heard_fits : (at : ℕ) (piece rest : List ℕ) (t : Talk) (old new : AskedConnection)
        → old.course.stage ≡ Talking t → (had : HasHeard s question at piece old new)
        → AreReadIn (settings_of s) had.heard → handed_out xs ≡ fed old.events ++ piece ++ rest → Going old.events
        → Fits s question holdings xs end new
    heard_fits at piece rest t old new is had reads came was =
        let e = heard laws s question holdings xs end old.events had.heard was.0 piece rest had.hears reads came was.1
        was.2 in
        let what : Signal = signals.Octets had.condition in
        after_octets t had.heard new.events (time_of (event at what) old.course) had.condition new.course.stage e.0 e.1
        (had.stands e.0 e.1.under.sound.transcript)
        (ap (λ (z : Course). z.stage) had.noted.course ∙ heard_course at had.condition t old.course is)
        (subst (λ z. AfterChange (change_between z new.course.stage) s question had.heard new.events) is
        had.noted.changed)
