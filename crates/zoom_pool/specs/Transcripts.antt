-- What the events of one connection amount to (Z39.50-2003, 3.2 and 3.4).
use Rattle.std.specs.Prelude.{◌≡◌, ◌≢◌, ℕ, suc, Bool, true, false, ◌||◌, if◌then◌else◌, List, [], ◌∷◌, ◌++◌, is_some, Option, None, Some, Result, Ok, Err, Contains}
use Rattle.std.specs.List.{flat_map}
use Rattle.zber.specs.declared.fault.FaultKind.TheVariants as kinds
use Rattle.zknow.specs.declared.fact.Fact.{Fact}
use Rattle.zorigin.specs.declared.settings.Settings.{Settings}
use Rattle.zorigin.specs.declared.answer.Answer.{Answer}
use Rattle.zorigin.specs.declared.answer.Sent.{Sent}
use Rattle.zorigin.specs.declared.answer.Taken.{Taken}
use Rattle.zorigin.specs.declared.answer.Taken.TheVariants as taken
use Rattle.zorigin.specs.declared.refusal.CallRefused.{CallRefused}
use Rattle.zorigin.specs.declared.refusal.CallRefused.TheVariants as calls
use Rattle.zorigin.specs.declared.refusal.Refused.{Refused}
use Rattle.zorigin.specs.Standings.{Call}
use Rattle.zorigin.specs.Calls.{call_result}
use Rattle.zorigin.specs.Replies.{verdict}
use Rattle.zorigin.specs.Sending.{encoding_of, request_of}
use Rattle.zorigin_facts.specs.Facts.{facts_of}
use Rattle.zorigin.specs.Log.{Log, Made, Got, Past, past, state_of, standing, request_list}
use Rattle.zoom_pool.specs.declared.state.State.{State}
use Rattle.zoom_pool.specs.declared.state.State.TheVariants as states
use Rattle.zoom_pool.specs.declared.state.Reason.{Reason}
use Rattle.zoom_pool.specs.declared.state.Reason.TheVariants as reasons
use Rattle.zoom_pool.specs.declared.step.Step.{Step}
use Rattle.zoom_pool.specs.declared.step.Step.TheVariants as steps
use Rattle.zoom_pool.specs.declared.step.Outcome.{Outcome}
use Rattle.zoom_pool.specs.declared.step.Outcome.TheVariants as outcome
use Rattle.zoom_pool.specs.declared.step.TakeError.{TakeError}
use Rattle.zoom_pool.specs.declared.step.TakeError.TheVariants as errors
use Rattle.zoom_pool.specs.States.{state_as, or_else, is_stopped, is_closing}
use Rattle.zoom_pool.specs.Inputs.{Input, AlreadyStopped, Message, Foreign, Fault, Rest, Nothing, AreInput, IsBehind}

-- What the events of a connection amount to: its stream, all pieces joined; how many messages of it were taken;
-- and the settings and the log of its origin. Then whether the input ended, and what stopped the connection.
pub record Transcript : Type 0 where
  pub settings : Settings
  pub stream : List ℕ
  pub taken : ℕ
  pub log : Log
  pub ended : Bool
  pub stop : Option State

-- the transcript before any event
abbrev pub empty_transcript : Settings → Transcript
empty_transcript settings = record { settings = settings; stream = []; taken = 0; log = []; ended = false; stop = None }

-- what the origin's log amounts to
abbrev pub past_of : Transcript → Past
past_of p = past p.settings p.log

-- the state of the connection: what stopped it, if anything did; otherwise the origin's state
abbrev pub state_at : Transcript → State
state_at p = or_else (state_as (state_of (past_of p))) p.stop

-- the transcript after the connection failed for this reason
abbrev pub after_stop : Transcript → Reason → Transcript
after_stop p reason = record p { stop = Some (states.Failed reason) }

-- ---- calls

-- the origin's result without what was sent
abbrev pub dropped : Result Sent CallRefused → Result (Unit {0}) CallRefused
dropped (Ok sent) = Ok tt
dropped (Err reason) = Err reason

-- the result of a call; a connection that was stopped refuses the call with `WrongState`, without its origin
abbrev pub connection_call_result : Transcript → Call → Result (Unit {0}) CallRefused
connection_call_result p call =
    if is_some p.stop then Err calls.WrongState else dropped (call_result (standing (past_of p)) call)

-- ---- takes

-- the input of the next Take: what the octets that follow the messages taken are, unless the connection is stopped
abbrev pub NextInput : Transcript → Input → Type 0
NextInput p AlreadyStopped = is_stopped (state_at p) ≡ true
NextInput p input =
    (is_stopped (state_at p) ≡ false) × (rest : List ℕ) × IsBehind p.stream p.taken rest × AreInput rest input

-- the transcript after a reply: if the origin refuses it, the connection failed
abbrev pub after_reply : Transcript → Result Taken Refused → Transcript
after_reply p (Ok taken) = p
after_reply p (Err reason) = after_stop p (reasons.Refused reason)

-- the transcript after the end of the input: Closed if the connection was Closing, otherwise Failed
abbrev pub end_by : Transcript → Transcript
end_by p = record p { stop = Some (if is_closing (state_at p) then states.Closed else states.Failed reasons.Ended) }

-- the input ended with so many octets that are no whole message
abbrev pub truncated : ℕ → Reason
truncated n = reasons.Frame kinds.Truncated n

-- the transcript after a Take with this input
abbrev pub after_take : Transcript → Input → Transcript
after_take p AlreadyStopped = p
after_take p (Message v) =
    after_reply (record p { taken = suc p.taken; log = Got v ∷ p.log }) (verdict (standing (past_of p)) v)
after_take p (Foreign error) = after_stop (record p { taken = suc p.taken }) (reasons.Decode error)
after_take p (Fault kind at) = after_stop p (reasons.Frame kind at)
after_take p (Rest n) = if p.ended then after_stop p (truncated n) else p
after_take p Nothing = if p.ended then end_by p else p

-- what the origin took, as the step that a caller sees
abbrev pub step_of_taken : Taken → Step
step_of_taken (taken.Opened answer) = steps.Opened
step_of_taken (taken.Rejected answer) = steps.Rejected
step_of_taken (taken.Answered answer) = steps.Answered
step_of_taken taken.Closed = steps.Closed

-- the result of a Take by the origin's verdict on the reply
abbrev pub take_result_of_verdict : Result Taken Refused → Result Step TakeError
take_result_of_verdict (Ok taken) = Ok (step_of_taken taken)
take_result_of_verdict (Err reason) = Err (errors.Refused reason)

-- the result of a Take with this input
abbrev pub take_result : Transcript → Input → Result Step TakeError
take_result p AlreadyStopped = Ok steps.Stopped
take_result p (Message v) = take_result_of_verdict (verdict (standing (past_of p)) v)
take_result p (Foreign error) = Err (errors.Decode error)
take_result p (Fault kind at) = Err (errors.Frame kind at)
take_result p (Rest n) = if p.ended then Err (errors.Frame kinds.Truncated n) else Ok steps.Nothing
take_result p Nothing = Ok (if p.ended then steps.Ended else steps.Nothing)

-- the outcome by the origin's verdict: the result, with what the origin took
abbrev pub outcome_of_reply : Result Taken Refused → Result Outcome TakeError
outcome_of_reply (Ok taken) = Ok (outcome.Took taken)
outcome_of_reply (Err reason) = Err (errors.Refused reason)

-- the outcome of a Take with this input
abbrev pub outcome_of : Transcript → Input → Result Outcome TakeError
outcome_of p AlreadyStopped = Ok outcome.Stopped
outcome_of p (Message v) = outcome_of_reply (verdict (standing (past_of p)) v)
outcome_of p (Foreign error) = Err (errors.Decode error)
outcome_of p (Fault kind at) = Err (errors.Frame kind at)
outcome_of p (Rest n) = if p.ended then Err (errors.Frame kinds.Truncated n) else Ok outcome.Nothing
outcome_of p Nothing = Ok (if p.ended then outcome.Ended else outcome.Nothing)

-- the step is that of a message that was taken and accepted
abbrev pub is_message : Step → Bool
is_message steps.Opened = true
is_message steps.Rejected = true
is_message steps.Answered = true
is_message steps.Closed = true
is_message _ = false

-- the step that a caller sees of an outcome
abbrev pub step_of : Outcome → Step
step_of outcome.Nothing = steps.Nothing
step_of (outcome.Took taken) = step_of_taken taken
step_of outcome.Ended = steps.Ended
step_of outcome.Stopped = steps.Stopped

-- the result that a caller sees of an outcome
abbrev pub take_result_of_outcome : Result Outcome TakeError → Result Step TakeError
take_result_of_outcome (Ok outcome) = Ok (step_of outcome)
take_result_of_outcome (Err error) = Err error

-- the answer in what the origin took; a Close has none
abbrev pub answer_in : Taken → Option Answer
answer_in (taken.Opened answer) = Some answer
answer_in (taken.Rejected answer) = Some answer
answer_in (taken.Answered answer) = Some answer
answer_in taken.Closed = None

-- the facts of the answer, if there is one
abbrev pub facts_in : ℕ → Option Answer → List Fact
facts_in target None = []
facts_in target (Some answer) = facts_of target answer

-- the facts that a reply adds; none if the origin refuses it
abbrev pub facts_of_verdict : ℕ → Result Taken Refused → List Fact
facts_of_verdict target (Ok taken) = facts_in target (answer_in taken)
facts_of_verdict target (Err reason) = []

-- the facts that a Take with this input adds
abbrev pub news_at : ℕ → Transcript → Input → List Fact
news_at target p (Message v) = facts_of_verdict target (verdict (standing (past_of p)) v)
news_at target p _ = []

-- the next Take adds this fact
abbrev pub IsNews : ℕ → Transcript → Fact → Type 0
IsNews target p q = (input : Input) × NextInput p input × Contains (news_at target p input) q

-- ---- events

-- An event of one connection: a call; a piece of octets fed; a Take; the end of its input; octets handed out; that
-- the caller stopped it. A call or a Take that found no memory is no event.
pub data Event : Type 0 where
  Called : Call → Event
  Fed : List ℕ → Event
  Took : Event
  InputEnded : Event
  HandedOut : List ℕ → Event
  Stopped : Reason → Event

-- the transcript after a call; unchanged if the connection was stopped
abbrev pub after_call : Transcript → Call → Transcript
after_call p call = if is_some p.stop then p else record p { log = Made call ∷ p.log }

-- the transcript after a piece; unchanged if the connection is stopped or its input ended
abbrev pub after_feed : Transcript → List ℕ → Transcript
after_feed p piece = if is_stopped (state_at p) || p.ended then p else record p { stream = p.stream ++ piece }

-- the transcript after one more event
abbrev pub EventStep : Event → Transcript → Transcript → Type 0
EventStep (Called call) p q = q ≡ after_call p call
EventStep (Fed piece) p q = q ≡ after_feed p piece
EventStep Took p q = (input : Input) × NextInput p input × (q ≡ after_take p input)
EventStep InputEnded p q = q ≡ record p { ended = true }
EventStep (HandedOut octets) p q = q ≡ p
EventStep (Stopped reason) p q = q ≡ after_stop p reason

-- the transcript of these events, newest first
abbrev pub IsTranscript : Settings → List Event → Transcript → Type 0
IsTranscript settings [] q = q ≡ empty_transcript settings
IsTranscript settings (event ∷ events) q = (p : Transcript) × IsTranscript settings events p × EventStep event p q

-- the octets handed out, in order
abbrev pub given : List Event → List ℕ
given [] = []
given (HandedOut octets ∷ events) = given events ++ octets
given (_ ∷ events) = given events

-- the octets fed, joined
abbrev pub fed : List Event → List ℕ
fed [] = []
fed (Fed piece ∷ events) = fed events ++ piece
fed (_ ∷ events) = fed events

-- a write failed: how many of the octets handed out were sent is not known
abbrev pub is_write : Reason → Bool
is_write reasons.Write = true
is_write _ = false

-- the connection was stopped because a write failed
abbrev pub is_lost : List Event → Bool
is_lost [] = false
is_lost (Stopped reason ∷ events) = is_write reason || is_lost events
is_lost (_ ∷ events) = is_lost events

-- pieces of octets, joined
abbrev pub joined : List (List ℕ) → List ℕ
joined pieces = flat_map (λ piece. piece) pieces

-- the encodings of the requests that were admitted, in order
abbrev pub sent : Past → List ℕ
sent p = flat_map encoding_of p.sent

-- the encoding of the request of a call; none if the call has no request
abbrev pub request_octets : Transcript → Call → List ℕ
request_octets p call = flat_map encoding_of (request_list (request_of (standing (past_of p)) call))

-- the reason for which a Take leaves the connection failed; none if no memory was found
abbrev pub reason_of : TakeError → Option Reason
reason_of (errors.Frame kind at) = Some (reasons.Frame kind at)
reason_of (errors.Decode error) = Some (reasons.Decode error)
reason_of (errors.Refused reason) = Some (reasons.Refused reason)
reason_of errors.Memory = None

-- ---- results that missing memory does not decide

-- memory was found: the result is not `Memory`, and may be another refusal
abbrev pub HasFoundMemory : {A : Type 0} → Result A TakeError → Type 0
HasFoundMemory (Ok x) = Unit {0}
HasFoundMemory (Err error) = error ≢ errors.Memory
