-- The events of one connection in the order of a talk (Z39.50-2003, 3.2). Events are newest first.
use Rattle.std.specs.Prelude.{◌≡◌, ℕ, true, false, List, ◌∷◌, ◌++◌, map, Result, Ok, Err}
use Rattle.zorigin.specs.Standings.{Call}
use Rattle.zoom_questions.specs.declared.question.Question.{Question}
use Rattle.zoom_questions.specs.declared.question.MetaSettings.{MetaSettings}
use Rattle.zoom_pool.specs.declared.state.State.{State}
use Rattle.zoom_pool.specs.declared.state.State.TheVariants as states
use Rattle.zoom_pool.specs.declared.state.Reason.TheVariants as reasons
use Rattle.zoom_pool.specs.declared.step.Step.{Step}
use Rattle.zoom_pool.specs.declared.step.Step.TheVariants as steps
use Rattle.zoom_pool.specs.declared.step.TakeError.{TakeError}
use Rattle.zoom_pool.specs.Inputs.{Input}
use Rattle.zoom_pool.specs.Transcripts.{Transcript, IsTranscript, Event, Called, Fed, Took, InputEnded, HandedOut, Stopped, NextInput, take_result, state_at, past_of, given, is_lost, sent, is_message}
use Rattle.zoom_pool.specs.Steering.{errand_of}
use Rattle.zoom_pool.specs.Metas.{IsIdleUnlessStopped, IsSearchTried, settings_of}
use Rattle.zoom_clock.specs.declared.signal.Ending.{Ending}
use Rattle.zoom_clock.specs.declared.signal.Ending.TheVariants as endings
use Rattle.zoom_clock.specs.declared.signal.Condition.{Condition}
use Rattle.zoom_clock.specs.declared.signal.Condition.TheVariants as conditions

-- how the events of a connection are related to those before, by the settings and its question
abbrev pub Relation : Type 1
Relation = MetaSettings → Question → List Event → List Event → Type 0

-- what the next take of a connection with these events returns
abbrev pub IsNextResult : MetaSettings → List Event → Result Step TakeError → Type 0
IsNextResult s events result =
    (p : Transcript) → IsTranscript (settings_of s) events p
    → (input : Input) × NextInput p input × (result ≡ take_result p input)

-- the take returned the end of the talk: the connection is Closed or Failed
abbrev pub IsLastResult : Result Step TakeError → Type 0
IsLastResult (Ok steps.Ended) = Unit {0}
IsLastResult (Ok steps.Stopped) = Unit {0}
IsLastResult (Ok _) = ⊥
IsLastResult (Err e) = Unit {0}

-- The calls that are due were made, and everything that waits was handed out: no call is next.
pub record IsDriven (s : MetaSettings) (question : Question) (old new : List Event) : Type 0 where
  pub calls : List Call
  pub octets : List ℕ
  pub is : new ≡ HandedOut octets ∷ (map Called calls ++ old)
  pub idle : (p : Transcript) → IsTranscript (settings_of s) (map Called calls ++ old) p
      → IsIdleUnlessStopped (errand_of s question) p × IsSearchTried p
  pub all : (p : Transcript) → IsTranscript (settings_of s) new p → is_lost new ≡ false → given new ≡ sent (past_of p)

-- Messages were taken while there were any. After each, the due calls were made and handed out. The last take found no
-- whole message, or ended the connection.
pub data AreTaken (s : MetaSettings) (question : Question) : List Event → List Event → Type 0 where
  none : (old : List Event) → IsNextResult s old (Ok steps.Nothing) → AreTaken s question old (Took ∷ old)
  last : (old : List Event) (result : Result Step TakeError) → IsNextResult s old result → IsLastResult result
      → AreTaken s question old (Took ∷ old)
  one : (old mid new : List Event) (step : Step) → IsNextResult s old (Ok step) → is_message step ≡ true
      → IsDriven s question (Took ∷ old) mid → AreTaken s question mid new → AreTaken s question old new

-- A piece of octets came: it was fed, and messages were taken.
abbrev pub IsHeard : List ℕ → MetaSettings → Question → List Event → List Event → Type 0
IsHeard piece s question old new = AreTaken s question (Fed piece ∷ old) new

-- how a connection stands that is in this state
abbrev pub condition_in : State → Condition
condition_in states.Closed = conditions.Finished
condition_in (states.Failed reason) = conditions.Finished
condition_in states.Closing = conditions.Leaving
condition_in _ = conditions.Going

-- how a connection with these events stands
abbrev pub IsCondition : MetaSettings → List Event → Condition → Type 0
IsCondition s events condition =
    (p : Transcript) → IsTranscript (settings_of s) events p → condition ≡ condition_in (state_at p)

-- the events of a connection that has ended so
abbrev pub closing : Ending → List Event → List Event
closing endings.Connect events = Stopped reasons.Connect ∷ events
closing endings.Read events = Stopped reasons.Read ∷ events
closing endings.Write events = Stopped reasons.Write ∷ events
closing endings.Turns events = Stopped reasons.Turns ∷ events
closing endings.InputEnded events = Took ∷ InputEnded ∷ events
closing endings.Finished events = events

-- the connection was closed so
abbrev pub IsClosed : Ending → MetaSettings → Question → List Event → List Event → Type 0
IsClosed ending s question old new = new ≡ closing ending old
