-- The log of a connection that is driven only grows: if it is a driver's in the end, it always was.
use Rattle.std.proofs.Common.{ℕ, suc, Bool, true, false, cond, List, [], ◌∷◌, ◌++◌, map, Result, Ok, Err, subst}
use Rattle.std.specs.Prelude.{is_some, ◌||◌}
use Rattle.zorigin.specs.declared.answer.Taken.{Taken}
use Rattle.zorigin.specs.declared.refusal.Refused.{Refused}
use Rattle.zorigin.specs.declared.settings.Settings.{Settings}
use Rattle.zorigin.specs.Standings.{Call}
use Rattle.zorigin.specs.Replies.{verdict}
use Rattle.zorigin.specs.Log.{Made, Got, standing}
use Rattle.zoom_questions.specs.declared.question.Question.{Question}
use Rattle.zoom_questions.specs.declared.question.MetaSettings.{MetaSettings}
use Rattle.zoom_pool.specs.Inputs.{Input, AlreadyStopped, Message, Foreign, Fault, Rest, Nothing}
use Rattle.zoom_pool.specs.States.{is_stopped}
use Rattle.zoom_pool.specs.Transcripts.{Transcript, IsTranscript, Event, Called, Fed, Took, InputEnded, HandedOut, Stopped, EventStep, state_at, past_of, after_take, after_reply, after_stop, end_by, truncated}
use Rattle.zoom_pool.specs.Driving.{IsDrivenLog}
use Rattle.zoom_pool.specs.Steering.{Errand, errand_of, IsSteered}
use Rattle.zoom_pool.specs.Metas.{settings_of}
use Rattle.zoom_clock.specs.declared.signal.Ending.{Ending}
use Rattle.zoom_clock.specs.declared.signal.Ending.TheVariants as endings
use Rattle.zoom_clock.specs.declared.signal.Signal.{Signal}
use Rattle.zoom_clock.specs.declared.stage.Stage.{Stage}
use Rattle.zoom_clock.specs.declared.stage.Stage.TheVariants.{NotChosen, Resolving, Connecting, Talking, Over}
use Rattle.zoom_asking.specs.declared.change.Change.{Change}
use Rattle.zoom_asking.specs.declared.change.Change.TheVariants as changes
use Rattle.zoom_asking.specs.Changes.{change_between}
use Rattle.zoom_asking.specs.Inquiries.{Told, Came, Noted}
use Rattle.zoom_asking.specs.Talks.{IsDriven, AreTaken, none, last, one, closing}
use Rattle.zoom_asking.specs.Hosts.{AskedConnection, AfterChange, IsNoted, IsFed, IsTold}

-- ---- one event

module _ (e : Errand) where
  -- each call of the log was the driver's, and was due
  abbrev pub IsSteady : Transcript → Type 0
  IsSteady p = IsSteered e p.settings p.log × IsDrivenLog e.ask e.wanted e.step p.settings p.log

  steady_call : (p : Transcript) (call : Call) (b : Bool) → IsSteady (cond b p (record p { log = Made call ∷ p.log }))
      → IsSteady p
  steady_call p call true s = s
  steady_call p call false s = (s.0.1, s.1.1)

  steady_feed : (p : Transcript) (piece : List ℕ) (b : Bool)
      → IsSteady (cond b p (record p { stream = p.stream ++ piece })) → IsSteady p
  steady_feed p piece true s = s
  steady_feed p piece false s = s

  steady_reply : (p : Transcript) (r : Result Taken Refused) → IsSteady (after_reply p r) → IsSteady p
  steady_reply p (Ok taken) s = s
  steady_reply p (Err reason) s = s

  steady_rest : (p : Transcript) (n : ℕ) (b : Bool) → IsSteady (cond b (after_stop p (truncated n)) p) → IsSteady p
  steady_rest p n true s = s
  steady_rest p n false s = s

  steady_end : (p : Transcript) (b : Bool) → IsSteady (cond b (end_by p) p) → IsSteady p
  steady_end p true s = s
  steady_end p false s = s

  steady_take : (p : Transcript) (input : Input) → IsSteady (after_take p input) → IsSteady p
  steady_take p AlreadyStopped s = s
  steady_take p (Message v) s =
      steady_reply (record p { taken = suc p.taken; log = Got v ∷ p.log }) (verdict (standing (past_of p)) v) s
  steady_take p (Foreign error) s = s
  steady_take p (Fault kind at) s = s
  steady_take p (Rest n) s = steady_rest p n p.ended s
  steady_take p Nothing s = steady_end p p.ended s

  steady_step : (x : Event) (p q : Transcript) → EventStep x p q → IsSteady q → IsSteady p
  steady_step (Called call) p q f s = steady_call p call (is_some p.stop) (subst IsSteady f s)
  steady_step (Fed piece) p q f s =
      steady_feed p piece (is_stopped (state_at p) || p.ended) (subst IsSteady f s)
  steady_step Took p q f s = steady_take p f.0 (subst IsSteady f.2 s)
  steady_step InputEnded p q f s = subst IsSteady f s
  steady_step (HandedOut octets) p q f s = subst IsSteady f s
  steady_step (Stopped reason) p q f s = subst IsSteady f s

  -- the events have a transcript, and each of its calls was the driver's
  pub record IsSound (settings : Settings) (events : List Event) : Type 0 where
    pub transcript : Transcript
    pub is : IsTranscript settings events transcript
    pub steady : IsSteady transcript

  pub sound_before : (settings : Settings) (x : Event) (events : List Event) → IsSound settings (x ∷ events)
      → IsSound settings events
  sound_before settings x events s = record {
    transcript = s.is.0;
    is = s.is.1;
    steady = steady_step x s.is.0 s.transcript s.is.2 s.steady;
  }

  pub sound_rest : (settings : Settings) (xs events : List Event) → IsSound settings (xs ++ events)
      → IsSound settings events
  sound_rest settings [] events s = s
  sound_rest settings (x ∷ xs) events s = sound_rest settings xs events (sound_before settings x (xs ++ events) s)

-- ---- what became of a connection

module _ (s : MetaSettings) (question : Question) where
  -- the events of the connection for this question are sound
  abbrev pub AreSound : List Event → Type 0
  AreSound events = IsSound (errand_of s question) (settings_of s) events

  before : (x : Event) (events : List Event) → AreSound (x ∷ events) → AreSound events
  before x events sound = sound_before (errand_of s question) (settings_of s) x events sound

  pub sound_driven : (old new : List Event) → IsDriven s question old new → AreSound new → AreSound old
  sound_driven old new d sound =
      sound_rest (errand_of s question) (settings_of s) (map (λ call. Called call) d.calls) old
      (before (HandedOut d.octets) (map (λ call. Called call) d.calls ++ old) (subst AreSound d.is sound))

  pub sound_taken : (old new : List Event) → AreTaken s question old new → AreSound new → AreSound old
  sound_taken old new (none events next) sound = before Took events sound
  sound_taken old new (last events result next is) sound = before Took events sound
  sound_taken old new (one events mid later step next is drives more) sound =
      before Took events (sound_driven (Took ∷ events) mid drives (sound_taken mid later more sound))

  sound_closed : (ending : Ending) (events : List Event) → AreSound (closing ending events) → AreSound events
  sound_closed endings.Connect events sound = before (Stopped _) events sound
  sound_closed endings.Read events sound = before (Stopped _) events sound
  sound_closed endings.Write events sound = before (Stopped _) events sound
  sound_closed endings.Turns events sound = before (Stopped _) events sound
  sound_closed endings.InputEnded events sound = before InputEnded events (before Took (InputEnded ∷ events) sound)
  sound_closed endings.Finished events sound = sound

  sound_changed : (change : Change) (old new : List Event) → AfterChange change s question old new → AreSound new
      → AreSound old
  sound_changed changes.Same old new same sound = subst AreSound same sound
  sound_changed changes.Opened old new drives sound = sound_driven old new drives sound
  sound_changed (changes.Ended ending) old new is sound = sound_closed ending old (subst AreSound is sound)

  pub sound_noted : (at : ℕ) (what : Signal) (events : List Event) (old new : AskedConnection)
      → IsNoted s question at what events old new → AreSound new.events → AreSound events
  sound_noted at what events old new n sound =
      sound_changed (change_between old.course.stage new.course.stage) events new.events n.changed sound

  sound_fed : (at : ℕ) (piece : List ℕ) (stage : Stage) (old new : AskedConnection)
      → IsFed s question at piece stage old new → AreSound new.events → AreSound old.events
  sound_fed at piece (Talking t) old new h sound =
      before (Fed piece) old.events (sound_taken (Fed piece ∷ old.events) h.heard h.hears
      (sound_noted at _ h.heard old new h.noted sound))
  sound_fed at piece NotChosen old new same sound = subst (λ (z : AskedConnection). AreSound z.events) same sound
  sound_fed at piece Resolving old new same sound = subst (λ (z : AskedConnection). AreSound z.events) same sound
  sound_fed at piece (Connecting a) old new same sound = subst (λ (z : AskedConnection). AreSound z.events) same sound
  sound_fed at piece (Over ending) old new same sound = subst (λ (z : AskedConnection). AreSound z.events) same sound

  pub sound_told : (at : ℕ) (told : Told) (old new : AskedConnection) → IsTold s question at told old new
      → AreSound new.events → AreSound old.events
  sound_told at (Came piece) old new is sound = sound_fed at piece old.course.stage old new is sound
  sound_told at (Noted what) old new is sound = sound_noted at what old.events old new is sound
