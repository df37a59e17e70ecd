-- What is read back from all that a connection sent in the end, was so before.
use Rattle.std.proofs.Common.{subst, ℕ, Bool, true, false, cond, List, [], ◌∷◌, ◌++◌, map, Option, None, Some}
use Rattle.std.specs.Prelude.{is_some, ◌||◌}
use Rattle.zapdu.specs.declared.apdu.Apdu.{Apdu}
use Rattle.zorigin.specs.declared.refusal.CallRefused.{CallRefused}
use Rattle.zorigin.specs.declared.settings.Settings.{Settings}
use Rattle.zorigin.specs.Standings.{Call}
use Rattle.zorigin.specs.Calls.{refusal}
use Rattle.zorigin.specs.Sending.{request_of}
use Rattle.zorigin.specs.Log.{Past, Made, standing, request_list, admit_unless}
use Rattle.zoom_questions.specs.declared.question.Question.{Question}
use Rattle.zoom_questions.specs.declared.question.MetaSettings.{MetaSettings}
use Rattle.zoom_pool.specs.States.{is_stopped}
use Rattle.zoom_pool.specs.Connections.{AreReadBack}
use Rattle.zoom_pool.specs.Transcripts.{Transcript, IsTranscript, Event, Called, Fed, Took, InputEnded, HandedOut, Stopped, EventStep, state_at, past_of, after_call}
use Rattle.zoom_pool.specs.Metas.{settings_of}
use Rattle.zoom_clock.specs.declared.signal.Ending.{Ending}
use Rattle.zoom_clock.specs.declared.signal.Ending.TheVariants as endings
use Rattle.zoom_clock.specs.declared.signal.Signal.{Signal}
use Rattle.zoom_clock.specs.declared.stage.Stage.{Stage}
use Rattle.zoom_clock.specs.declared.stage.Stage.TheVariants.{NotChosen, Resolving, Connecting, Talking, Over}
use Rattle.zoom_asking.specs.Changes.{change_between}
use Rattle.zoom_asking.specs.Inquiries.{Told, Came, Noted}
use Rattle.zoom_asking.specs.Talks.{IsDriven, AreTaken, none, last, one, closing}
use Rattle.zoom_asking.specs.Hosts.{AskedConnection, AfterChange, IsNoted, IsFed, IsTold}
use Rattle.zoom_asking_laws.proofs.TakeSteps.{take_sent}

-- ---- one event

-- all that was sent is read back
abbrev pub IsRead : Transcript → Type 0
IsRead p = AreReadBack (past_of p).sent

front_read : (vs ws : List Apdu) → AreReadBack (vs ++ ws) → AreReadBack vs
front_read [] ws r = tt
front_read (v ∷ vs) ws r = (r.0, front_read vs ws r.1)

admitted_read : (p : Past) (call : Call) (o : Option CallRefused) → AreReadBack (admit_unless p call o).sent
    → AreReadBack p.sent
admitted_read p call None r = front_read p.sent (request_list (request_of (standing p) call)) r
admitted_read p call (Some reason) r = r

pub call_read : (p : Transcript) (call : Call) → IsRead (after_call p call) → IsRead p
call_read p call = elim (is_some p.stop) as (λ b. IsRead (cond b p (record p { log = Made call ∷ p.log })) → IsRead p) [
  | true ↦ λ r. r
  | false ↦ λ r. admitted_read (past_of p) call (refusal (standing (past_of p)) call) r
]

feed_read : (p : Transcript) (piece : List ℕ) (b : Bool) → IsRead (cond b p (record p { stream = p.stream ++ piece }))
    → IsRead p
feed_read p piece true r = r
feed_read p piece false r = r

step_read : (x : Event) (p q : Transcript) → EventStep x p q → IsRead q → IsRead p
step_read (Called call) p q f r = call_read p call (subst IsRead f r)
step_read (Fed piece) p q f r = feed_read p piece (is_stopped (state_at p) || p.ended) (subst IsRead f r)
step_read Took p q f r = subst AreReadBack (take_sent p f.0) (subst IsRead f.2 r)
step_read InputEnded p q f r = subst IsRead f r
step_read (HandedOut octets) p q f r = subst IsRead f r
step_read (Stopped reason) p q f r = subst IsRead f r

-- the events have a transcript, and all that was sent is read back
pub record AreReadIn (settings : Settings) (events : List Event) : Type 0 where
  pub transcript : Transcript
  pub is : IsTranscript settings events transcript
  pub reads : IsRead transcript

-- ---- what became of a connection

module _ (s : MetaSettings) (question : Question) where
  abbrev pub AreRead : List Event → Type 0
  AreRead events = AreReadIn (settings_of s) events

  pub read_before : (x : Event) (events : List Event) → AreRead (x ∷ events) → AreRead events
  read_before x events r = record {
    transcript = r.is.0;
    is = r.is.1;
    reads = step_read x r.is.0 r.transcript r.is.2 r.reads;
  }

  pub read_rest : (xs events : List Event) → AreRead (xs ++ events) → AreRead events
  read_rest [] events r = r
  read_rest (x ∷ xs) events r = read_rest xs events (read_before x (xs ++ events) r)

  pub read_driven : (old new : List Event) → IsDriven s question old new → AreRead new → AreRead old
  read_driven old new d r =
      read_rest (map Called d.calls) old (read_before (HandedOut d.octets) (map Called d.calls ++ old)
      (subst AreRead d.is r))

  pub read_taken : (old new : List Event) → AreTaken s question old new → AreRead new → AreRead old
  read_taken old new (none events next) r = read_before Took events r
  read_taken old new (last events result next is) r = read_before Took events r
  read_taken old new (one events mid later step next is drives more) r =
      read_before Took events (read_driven (Took ∷ events) mid drives (read_taken mid later more r))

  read_closed : (ending : Ending) (events : List Event) → AreRead (closing ending events) → AreRead events
  read_closed endings.Connect events r = read_before (Stopped _) events r
  read_closed endings.Read events r = read_before (Stopped _) events r
  read_closed endings.Write events r = read_before (Stopped _) events r
  read_closed endings.Turns events r = read_before (Stopped _) events r
  read_closed endings.InputEnded events r = read_before InputEnded events (read_before Took (InputEnded ∷ events) r)
  read_closed endings.Finished events r = r

  -- what a change of the stage brings
  abbrev Brings : Stage → Stage → List Event → List Event → Type 0
  Brings stage next old new = AfterChange (change_between stage next) s question old new

  -- of a connection that has not connected
  read_early : (next : Stage) (old new : List Event) → Brings Resolving next old new → AreRead new → AreRead old
  read_early NotChosen old new same r = subst AreRead same r
  read_early Resolving old new same r = subst AreRead same r
  read_early (Connecting a) old new same r = subst AreRead same r
  read_early (Talking t) old new drives r = read_driven old new drives r
  read_early (Over ending) old new is r = read_closed ending old (subst AreRead is r)

  read_changed : (stage next : Stage) (old new : List Event) → Brings stage next old new → AreRead new → AreRead old
  read_changed NotChosen next old new same r = subst AreRead same r
  read_changed Resolving next old new brings r = read_early next old new brings r
  read_changed (Connecting a) next old new brings r = read_early next old new brings r
  read_changed (Talking t) NotChosen old new same r = subst AreRead same r
  read_changed (Talking t) Resolving old new same r = subst AreRead same r
  read_changed (Talking t) (Connecting b) old new same r = subst AreRead same r
  read_changed (Talking t) (Talking u) old new same r = subst AreRead same r
  read_changed (Talking t) (Over ending) old new is r = read_closed ending old (subst AreRead is r)
  read_changed (Over ending) next old new same r = subst AreRead same r

  pub read_noted : (at : ℕ) (what : Signal) (events : List Event) (old new : AskedConnection)
      → IsNoted s question at what events old new → AreRead new.events → AreRead events
  read_noted at what events old new n r =
      read_changed old.course.stage new.course.stage events new.events n.changed r

  read_fed : (at : ℕ) (piece : List ℕ) (stage : Stage) (old new : AskedConnection)
      → IsFed s question at piece stage old new → AreRead new.events → AreRead old.events
  read_fed at piece (Talking t) old new h r =
      read_before (Fed piece) old.events (read_taken (Fed piece ∷ old.events) h.heard h.hears
      (read_noted at _ h.heard old new h.noted r))
  read_fed at piece NotChosen old new same r = subst (λ (z : AskedConnection). AreRead z.events) same r
  read_fed at piece Resolving old new same r = subst (λ (z : AskedConnection). AreRead z.events) same r
  read_fed at piece (Connecting a) old new same r = subst (λ (z : AskedConnection). AreRead z.events) same r
  read_fed at piece (Over ending) old new same r = subst (λ (z : AskedConnection). AreRead z.events) same r

  pub read_told : (at : ℕ) (told : Told) (old new : AskedConnection) → IsTold s question at told old new
      → AreRead new.events → AreRead old.events
  read_told at (Came piece) old new is r = read_fed at piece old.course.stage old new is r
  read_told at (Noted what) old new is r = read_noted at what old.events old new is r
