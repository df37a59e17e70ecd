-- What the steps of a Take do.
use Rattle.std.specs.Prelude.{◌≡◌, ℕ, true, List, [], ◌∷◌, Option, None, Some, Result, Ok, Err, Contains}
use Rattle.zber.specs.declared.fault.FrameError.{FrameError}
use Rattle.zber.specs.declared.fault.FrameError.TheVariants.{Fault, Memory}
use Rattle.zber.specs.Elements.{Element}
use Rattle.zber.specs.Shown.{HasFault}
use Rattle.zber.specs.Stream.{Stream}
use Rattle.zber.specs.Unfinished.{IsUnfinished}
use Rattle.zknow.specs.declared.fact.Fact.{Fact}
use Rattle.zknow.specs.Tables.Join.{IsUnion, IsPartOfUnion}
use Rattle.zorigin.specs.declared.settings.Settings.{Settings}
use Rattle.zorigin.specs.declared.refusal.CallRefused.{CallRefused}
use Rattle.zorigin.specs.Standings.{Standing, Call}
use Rattle.zorigin.specs.Log.{Log, Got, IsMadeCall, After as OriginAfter}
use Rattle.zoom_pool.specs.declared.state.Reason.{Reason}
use Rattle.zoom_pool.specs.declared.state.State.{State}
use Rattle.zoom_pool.specs.declared.state.State.TheVariants as states
use Rattle.zoom_pool.specs.declared.step.Outcome.{Outcome}
use Rattle.zoom_pool.specs.declared.step.TakeError.{TakeError}
use Rattle.zoom_pool.specs.declared.step.TakeError.TheVariants as errors
use Rattle.zoom_pool.specs.Links.{Link}
use Rattle.zoom_pool.specs.Inputs.{Input, Message, IsReadAs}
use Rattle.zber.specs.declared.framer.TheConstants.{MESSAGE_LIMIT}
use Rattle.zoom_pool.specs.Transcripts.{Transcript, Event, NextInput, after_stop, after_take, outcome_of, connection_call_result, news_at, reason_of, IsNews, HasFoundMemory}
use Rattle.zoom_pool.specs.Connections.{FramerAfter, AreConsistent, ConnectionAfter}

-- the log after this input: it has the message, if there is one
abbrev pub log_after : Transcript → Input → Log
log_after p (Message v) = Got v ∷ p.log
log_after p _ = p.log

-- The input was processed: the outcome, the origin after it, and the facts known.
pub record InputStep
    (target : ℕ) (p : Transcript) (input : Input) (result : Result Outcome TakeError) (origin : Standing)
    (old new : List Fact)
    : Type 0 where
  pub returned : result ≡ outcome_of p input
  pub stands : OriginAfter p.settings (log_after p input) origin
  pub union : IsUnion (Contains old) (Contains (news_at target p input)) (Contains new)

-- The element was read as an input, which was processed.
pub record MessageStep
    (target : ℕ) (p : Transcript) (e : Element) (result : Result Outcome TakeError) (origin : Standing)
    (old new : List Fact)
    : Type 0 where
  pub input : Input
  pub read : IsReadAs e input
  pub input_step : InputStep target p input result origin old new

-- the message in this element adds this fact
abbrev pub IsNewsIn : ℕ → Transcript → Element → Fact → Type 0
IsNewsIn target p e q = (input : Input) × IsReadAs e input × Contains (news_at target p input) q

-- A Take: its input, its outcome, the connection after it, and the facts known.
pub record TakeResult
    (target : ℕ) (p : Transcript) (result : Result Outcome TakeError) (c : Link) (old new : List Fact) : Type 0 where
  pub input : Input
  pub is_next : NextInput p input
  pub returned : result ≡ outcome_of p input
  pub matches : AreConsistent (after_take p input) c
  pub union : IsUnion (Contains old) (Contains (news_at target p input)) (Contains new)

-- A Take that found no message: the same, and no fact is added.
pub record EmptyTake (p : Transcript) (result : Result Outcome TakeError) (c : Link) : Type 0 where
  pub input : Input
  pub is_next : NextInput p input
  pub returned : result ≡ outcome_of p input
  pub matches : AreConsistent (after_take p input) c
  pub silent : (target : ℕ) → news_at target p input ≡ []

-- the result of asking the framer for the next message
abbrev pub NextMessage : Transcript → Result (Option Element) FrameError → Option Element → Stream → Type 0
NextMessage p (Ok (Some e)) held framer = (held ≡ None) × FramerAfter p (Some e) framer
NextMessage p (Ok None) held framer =
    (held ≡ None) × FramerAfter p None framer × IsUnfinished MESSAGE_LIMIT framer.octets × (framer.asked ≡ true)
    × (framer.fault ≡ None)
NextMessage p (Err (Fault kind at)) held framer =
    (held ≡ None) × ((reason : Reason) → FramerAfter (after_stop p reason) None framer)
    × HasFault MESSAGE_LIMIT framer.octets kind at
NextMessage p (Err Memory) held framer = (held ≡ None) × FramerAfter p None framer

-- what stops a connection: the reason, if there is one; otherwise what stopped it before
abbrev pub stop_for : Option State → Option Reason → Option State
stop_for stop None = stop
stop_for stop (Some reason) = Some (states.Failed reason)

-- what stops a connection after a message with this outcome
abbrev pub stop_after : Option State → Result Outcome TakeError → Option State
stop_after stop (Ok outcome) = stop
stop_after stop (Err error) = stop_for stop (reason_of error)

-- the message kept: this one, if there is no reason to fail; otherwise the one kept before
abbrev pub held_for : Option Reason → Element → Option Element → Option Element
held_for None e old = Some e
held_for (Some reason) e old = old

-- the message kept after this one was processed with this outcome
abbrev pub held_after : Result Outcome TakeError → Element → Option Element → Option Element
held_after (Ok outcome) e old = old
held_after (Err error) e old = held_for (reason_of error) e old

-- ---- clauses of the steps, each for every transcript that agrees with the connection

-- unless no memory is found, the message in the element is processed
abbrev pub ProcessStep : ℕ → Element → Result Outcome TakeError → Standing → Standing → List Fact → List Fact → Type 0
ProcessStep target e result old new knew knows =
    (p : Transcript) → OriginAfter p.settings p.log old → HasFoundMemory result
    → MessageStep target p e result new knew knows

-- if no memory is found, some facts of the message, and no others, were added
abbrev pub PartialProcessStep : ℕ → Element → Result Outcome TakeError → Standing → List Fact → List Fact → Type 0
PartialProcessStep target e result old knew knows =
    (p : Transcript) → OriginAfter p.settings p.log old → result ≡ Err errors.Memory
    → IsPartOfUnion (Contains knew) (IsNewsIn target p e) (Contains knows)

-- unless no memory is found, this is what a Take does
abbrev pub LinkTakeStep : ℕ → Result Outcome TakeError → Link → Link → List Fact → List Fact → Type 0
LinkTakeStep target result old new knew knows =
    (p : Transcript) → AreConsistent p old → HasFoundMemory result → TakeResult target p result new knew knows

-- if no memory is found, some facts that the Take adds, and no others, were added
abbrev pub PartialTake : ℕ → Result Outcome TakeError → Link → List Fact → List Fact → Type 0
PartialTake target result old knew knows =
    (p : Transcript) → AreConsistent p old → result ≡ Err errors.Memory
    → IsPartOfUnion (Contains knew) (IsNews target p) (Contains knows)

-- if no memory is found, each transcript that agreed with the connection still agrees; a message may be kept
abbrev pub LinkIncompleteTake : Result Outcome TakeError → Link → Link → Type 0
LinkIncompleteTake result old new =
    (p : Transcript) → AreConsistent p old → result ≡ Err errors.Memory → AreConsistent p new

-- each list of events that can have left `old`, with this event added, can have left `new`
abbrev pub LinkRecorded : Event → (Transcript → Transcript) → Link → Link → Type 0
LinkRecorded event change old new =
    (settings : Settings) (events : List Event) (p : Transcript)
    → ConnectionAfter settings events p old → ConnectionAfter settings (event ∷ events) (change p) new

-- the result of a call, unless no memory is found
abbrev pub IsLinkCallResult : Call → Result (Unit {0}) CallRefused → Link → Type 0
IsLinkCallResult call result old =
    (p : Transcript) → AreConsistent p old → IsMadeCall result → result ≡ connection_call_result p call
