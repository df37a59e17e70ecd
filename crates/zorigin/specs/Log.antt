-- The log of one origin, and its past: the calls that were admitted and the replies that were accepted (Z39.50-2003,
-- 3.2 and 3.4).
use Rattle.std.specs.Prelude.{◌≡◌, ◌≢◌, ℕ, ◌==◌, Bool, true, false, not, if◌then◌else◌, List, [], ◌∷◌, ◌++◌, map, filter, Option, None, Some, Result, Ok, Err}
use Rattle.std.specs.List.{list_any, find, flat_map}
use Rattle.zapdu.specs.declared.apdu.Apdu.{Apdu}
use Rattle.zapdu.specs.declared.apdu.Apdu.TheVariants as apdus
use Rattle.zorigin.specs.declared.settings.Settings.{Settings}
use Rattle.zorigin.specs.declared.answer.What.{What}
use Rattle.zorigin.specs.declared.answer.What.TheVariants as what
use Rattle.zorigin.specs.declared.answer.Asked.{Asked}
use Rattle.zorigin.specs.declared.answer.Answer.{Answer}
use Rattle.zorigin.specs.declared.answer.Sent.{Sent}
use Rattle.zorigin.specs.declared.answer.Taken.{Taken}
use Rattle.zorigin.specs.declared.answer.Taken.TheVariants as taken
use Rattle.zorigin.specs.declared.refusal.CallRefused.{CallRefused}
use Rattle.zorigin.specs.declared.refusal.CallRefused.TheVariants as calls
use Rattle.zorigin.specs.declared.refusal.Refused.{Refused}
use Rattle.zorigin.specs.declared.refusal.Refused.TheVariants as refused
use Rattle.zorigin.specs.declared.state.State.{State}
use Rattle.zorigin.specs.declared.state.State.TheVariants as states
use Rattle.zorigin.specs.declared.state.InForce.{InForce}
use Rattle.zorigin.specs.declared.state.Searched.{Searched}
use Rattle.zorigin.specs.declared.state.Outcome.{Outcome}
use Rattle.zorigin.specs.Standings.{Call, Init, Search, Present, Close, Standing, is_open, nothing_in_force, ready}
use Rattle.zorigin.specs.Sending.{request_of}
use Rattle.zorigin.specs.Calls.{early_refusal, refusal, call_result}
use Rattle.zorigin.specs.Replies.{verdict, HasAnswer}
use Rattle.zorigin.specs.Changes.{init_asked, search_asked, present_asked, unanswered, options_in_force, outcome_in}

-- A call that was made, or an APDU that was taken. A call or take whose result is `Memory` makes no entry.
pub data Entry : Type 0 where
  Made : Call → Entry
  Got : Apdu → Entry

-- the newest first
abbrev pub Log : Type 0
Log = List Entry

-- What a log amounts to: the calls admitted, the requests sent for them and the replies accepted, in order; whether a
-- Close was taken; and the latest fault.
pub record Past : Type 0 where
  pub settings : Settings
  pub admitted : List Call
  pub sent : List Apdu
  pub accepted : List Answer
  pub closed : Bool
  pub fault : Option Refused

-- the past of no entries
abbrev pub empty_past : Settings → Past
empty_past settings = record {
  settings = settings;
  admitted = [];
  sent = [];
  accepted = [];
  closed = false;
  fault = None;
}

-- ---- the operations

-- the operation of a call, none for Close
abbrev pub operation_of : Call → List Asked
operation_of Init = init_asked ∷ []
operation_of (Search op set ask) = search_asked op set ∷ []
operation_of (Present op set ranges) = present_asked op set ranges ∷ []
operation_of Close = []

-- the operations that were admitted, in the order of the calls
abbrev pub asked : Past → List Asked
asked p = flat_map operation_of p.admitted

-- the reply is to the operation with this number
abbrev pub is_answer_to : ℕ → Answer → Bool
is_answer_to op answer = answer.asked.op == op

-- a reply to the operation with this number was accepted
abbrev pub is_answered : Past → ℕ → Bool
is_answered p op = list_any (is_answer_to op) p.accepted

-- admitted, and not answered yet
abbrev pub outstanding : Past → List Asked
outstanding p = filter (λ (q : Asked). not (is_answered p q.op)) (asked p)

-- ---- the association

-- the operation asks for the association itself
abbrev pub is_init : What → Bool
is_init what.Init = true
is_init _ = false

-- the reply is to Init, whether it accepts the association or rejects it
abbrev pub is_opening : Answer → Bool
is_opening answer = is_init answer.asked.what

-- the reply to Init
abbrev pub opening : Past → Option Answer
opening p = find is_opening p.accepted

-- the call asks for the association (3.2.1.1)
abbrev pub is_init_call : Call → Bool
is_init_call Init = true
is_init_call _ = false

-- the call asks to end the association (3.2.11.1)
abbrev pub is_close_call : Call → Bool
is_close_call Close = true
is_close_call _ = false

-- what the reply to Init puts in force
abbrev pub force_by : Apdu → InForce
force_by (apdus.InitResponse v) = if v.result then options_in_force v else nothing_in_force
force_by _ = nothing_in_force

-- what is in force after the reply to Init; nothing while it has not come
abbrev pub force_after : Option Answer → InForce
force_after None = nothing_in_force
force_after (Some answer) = force_by answer.reply

-- the state that the reply to Init leads to: Ready if it accepts the association, else Closed
abbrev pub state_by : Apdu → State
state_by (apdus.InitResponse v) = if v.result then ready (options_in_force v) else states.Closed
state_by _ = states.Closed

-- Fresh if no Init was admitted; Initialising while it is unanswered; then what its reply says
abbrev pub opened_state : Bool → Option Answer → State
opened_state begun None = if begun then states.Initialising else states.Fresh
opened_state begun (Some answer) = state_by answer.reply

-- Closing if Close was admitted, unless the association was rejected
abbrev pub closing_state : Bool → State → State
closing_state closing (states.Ready v3 concurrent named) =
    if closing then states.Closing else states.Ready v3 concurrent named
closing_state closing other = other

-- Failed if there was a fault
abbrev pub failed_or : State → Option Refused → State
failed_or other None = other
failed_or other (Some reason) = states.Failed reason

-- the state, from the latest fault, whether the target's Close was taken, whether Close and Init were admitted, and
-- the reply to Init
abbrev pub state_from : Option Refused → Bool → Bool → Bool → Option Answer → State
state_from fault closed closing begun answer =
    failed_or (if closed then states.Closed else closing_state closing (opened_state begun answer)) fault

-- the state; of several that are true it is the last of Fresh, Initialising, Ready, Closing, Closed, Failed
abbrev pub state_of : Past → State
state_of p =
    state_from p.fault p.closed (list_any is_close_call p.admitted) (list_any is_init_call p.admitted) (opening p)

-- ---- the searches

-- the search that a call makes, not answered yet; none for another call
abbrev pub search_in : Call → List Searched
search_in (Search op set ask) = unanswered op set ask ∷ []
search_in _ = []

-- the outcome of a search, by the reply to it; none while no reply was accepted
abbrev pub outcome_by : Option Answer → Option Outcome
outcome_by None = None
outcome_by (Some answer) = outcome_in answer.reply

-- a search with its outcome
abbrev pub with_outcome : List Answer → Searched → Searched
with_outcome accepted searched = record searched { outcome = outcome_by (find (is_answer_to searched.op) accepted) }

-- the searches that were admitted, in order, each with its outcome
abbrev pub searches_in : Past → List Searched
searches_in p = map (with_outcome p.accepted) (flat_map search_in p.admitted)

-- ---- what the tables ask

-- an operation with its number, as `Standing` lists the outstanding ones
abbrev pub by_operation : Asked → ℕ × Asked
by_operation q = (q.op, q)

-- a search with its set, as `Standing` lists the searches
abbrev pub by_set : Searched → ℕ × Searched
by_set searched = (searched.set, searched)

-- the number of an operation, 0 for Init
abbrev pub op_of : Asked → ℕ
op_of q = q.op

-- the origin after this past
abbrev pub standing : Past → Standing
standing p = record {
  settings = p.settings;
  state = state_of p;
  force = force_after (opening p);
  used = map op_of (asked p);
  searches = map by_set (searches_in p);
  outstanding = map by_operation (outstanding p);
}

-- ---- one entry more

-- the requests that an admitted call adds to those sent: one, or none
abbrev pub request_list : Option Apdu → List Apdu
request_list None = []
request_list (Some apdu) = apdu ∷ []

-- the past with one admitted call more
abbrev pub admit : Past → Call → Past
admit p call = record p {
  admitted = p.admitted ++ call ∷ [];
  sent = p.sent ++ request_list (request_of (standing p) call);
}

-- the past after a call that is refused for this reason, or admitted if there is none
abbrev pub admit_unless : Past → Call → Option CallRefused → Past
admit_unless p call None = admit p call
admit_unless p call (Some reason) = p

-- the past with one accepted reply more
abbrev pub accept : Past → Answer → Past
accept p answer = record p { accepted = p.accepted ++ answer ∷ [] }

-- the past after a verdict on an APDU
abbrev pub after_verdict : Past → Result Taken Refused → Past
after_verdict p (Ok (taken.Opened answer)) = accept p answer
after_verdict p (Ok (taken.Rejected answer)) = accept p answer
after_verdict p (Ok (taken.Answered answer)) = accept p answer
after_verdict p (Ok taken.Closed) = record p { closed = true }
after_verdict p (Err reason) = if is_open (state_of p) then record p { fault = Some reason } else p

-- the past after one entry more
abbrev pub with_entry : Entry → Past → Past
with_entry (Made call) p = admit_unless p call (refusal (standing p) call)
with_entry (Got reply) p = after_verdict p (verdict (standing p) reply)

-- the past of a log, by induction on its length
abbrev pub past : Settings → Log → Past
past settings [] = empty_past settings
past settings (e ∷ log) = with_entry e (past settings log)

-- The log can have left this origin.
pub record After (settings : Settings) (log : Log) (origin : Standing) : Type 0 where
  pub is : origin ≡ standing (past settings log)

-- ---- memory aside

-- the result is not this error
abbrev pub IsNotError : {X E : Type 0} → E → Result X E → Type 0
IsNotError error (Ok x) = Unit {0}
IsNotError error (Err reason) = reason ≢ error

-- the result is not `Memory`, so the call makes an entry
abbrev pub IsMadeCall : {X : Type 0} → Result X CallRefused → Type 0
IsMadeCall result = IsNotError calls.Memory result

-- the result is the given one, unless it is `Memory`
abbrev pub IsGivenResult : {X : Type 0} → Result X CallRefused → Result X CallRefused → Type 0
IsGivenResult given result = IsMadeCall result → result ≡ given

-- the result is not `Memory`, so the take makes an entry
abbrev pub IsTakenReply : Result Taken Refused → Type 0
IsTakenReply result = IsNotError refused.Memory result

-- the verdict is the given one, unless it is `Memory`
abbrev pub IsGivenVerdict : Result Taken Refused → Result Taken Refused → Type 0
IsGivenVerdict given result = IsTakenReply result → result ≡ given

-- ---- what holds for each log that can have left the origin

-- for each log that can have left the origin, the result is that of the call after it
abbrev pub IsResultOfCall : Standing → Call → Result Sent CallRefused → Type 0
IsResultOfCall origin call result =
    (settings : Settings) (log : Log) → After settings log origin
    → IsGivenResult (call_result (standing (past settings log)) call) result

-- for each log that can have left the origin, nothing refuses the call after it, its request aside
abbrev pub IsAdmissible : Standing → Call → Type 0
IsAdmissible origin call =
    (settings : Settings) (log : Log) → After settings log origin
    → early_refusal (standing (past settings log)) call ≡ None

-- before and after a call: each log that can have left the old origin, with the call, can have left the new one
abbrev pub OriginAfterCall : Standing → Call → Result Sent CallRefused → Standing → Type 0
OriginAfterCall old call result new =
    (settings : Settings) (log : Log) → After settings log old → IsMadeCall result
    → After settings (Made call ∷ log) new

-- for each log that can have left the origin, the result is the verdict on the APDU after it
abbrev pub IsResultOfTake : Standing → Apdu → Result Taken Refused → Type 0
IsResultOfTake origin reply result =
    (settings : Settings) (log : Log) → After settings log origin
    → IsGivenVerdict (verdict (standing (past settings log)) reply) result

-- before and after a take: each log that can have left the old origin, with the APDU, can have left the new one
abbrev pub OriginAfterTake : Standing → Apdu → Result Taken Refused → Standing → Type 0
OriginAfterTake old reply result new =
    (settings : Settings) (log : Log) → After settings log old → IsTakenReply result
    → After settings (Got reply ∷ log) new

-- for each log that can have left the origin, the verdict on the APDU after it accepts a reply
abbrev pub IsAcceptedReply : Standing → Apdu → Type 0
IsAcceptedReply origin reply =
    (settings : Settings) (log : Log) → After settings log origin
    → HasAnswer (verdict (standing (past settings log)) reply)

-- of some APDU, this is the result of a take
abbrev pub IsJudgement : Standing → Result Taken Refused → Type 0
IsJudgement origin judged = (reply : Apdu) × IsResultOfTake origin reply judged

-- the origin after it accepted a judgement is the one after a take of each APDU that is judged so
abbrev pub OriginAfterJudgement : Standing → Result Taken Refused → Standing → Type 0
OriginAfterJudgement old judged new =
    (reply : Apdu) → IsResultOfTake old reply judged → OriginAfterTake old reply judged new

-- for each log that can have left the origin, this is its state
abbrev pub IsState : Standing → State → Type 0
IsState origin state =
    (settings : Settings) (log : Log) → After settings log origin → state ≡ state_of (past settings log)
