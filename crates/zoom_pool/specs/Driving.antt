-- A connection that is driven for one question: the events of the plan in its log, and which calls are due.
use Rattle.std.specs.Prelude.{◌≡◌, ℕ, ℤ, ◌<◌, ◌≤◌, ◌+◌, is_none, Bool, true, false, ◌&&◌, List, [], ◌∷◌, length, Option, None, Some, Result, Ok, Err}
use Rattle.zapdu.specs.declared.apdu.Apdu.{Apdu}
use Rattle.zapdu.specs.declared.apdu.Apdu.TheVariants as apdus
use Rattle.zplan.specs.Plan as plan
use Rattle.zplan.specs.Plan.{Operation, PlanEvent, RequestSent, ReplyAccepted, CloseSent, Reply, InitReply, SearchReply, PresentReply, IsDue, IsPlanAnswered, number, replies_in, count_in}
use Rattle.zplan.specs.Positions.{IsWanted, up_to}
use Rattle.zorigin.specs.declared.settings.Settings.{Settings}
use Rattle.zorigin.specs.declared.settings.Ask.{Ask}
use Rattle.zorigin.specs.declared.answer.What.{What}
use Rattle.zorigin.specs.declared.answer.What.TheVariants as what
use Rattle.zorigin.specs.declared.answer.Answer.{Answer}
use Rattle.zorigin.specs.declared.answer.Taken.{Taken}
use Rattle.zorigin.specs.declared.refusal.CallRefused.{CallRefused}
use Rattle.zorigin.specs.declared.refusal.Refused.{Refused}
use Rattle.zorigin.specs.Standings.{Call, Init, Search, Present, Close}
use Rattle.zplan.specs.Ranges.{natural, positions}
use Rattle.zorigin.specs.Calls.{refusal}
use Rattle.zorigin.specs.Changes.{options_in_force}
use Rattle.zorigin.specs.Fitting.{records_in}
use Rattle.zorigin.specs.Replies.{verdict}
use Rattle.zorigin.specs.Log.{Log, Made, Got, Past, past, standing, opening, force_after, asked}
use Rattle.zoom_pool.specs.Transcripts.{answer_in}

-- ---- the log as events of the plan

-- a call as an event of the plan
abbrev pub plan_of : Call → PlanEvent
plan_of Init = RequestSent plan.Init
plan_of (Search op set ask) = RequestSent plan.Search
plan_of (Present op set ranges) = RequestSent (plan.Present (positions ranges))
plan_of Close = CloseSent

-- the operation of the plan that a request is for
abbrev pub operation_for : What → Operation
operation_for what.Init = plan.Init
operation_for what.Search = plan.Search
operation_for (what.Present ranges) = plan.Present (positions ranges)

-- the origin would admit the search
abbrev pub can_search : Ask → Past → Bool
can_search ask p = is_none (refusal (standing p) (Search 1 1 ask))

-- Presents can ask for records
abbrev pub can_present : Past → Bool
can_present p = (force_after (opening p)).present

-- the count, if the condition holds
abbrev pub counted : Bool → ℤ → Option ℕ
counted false n = None
counted true n = Some (natural n)

-- an accepted reply, reduced to what decides the next request
abbrev pub reply_for : Ask → Past → Apdu → Reply
reply_for ask p (apdus.InitResponse v) = InitReply (v.result && can_search ask p) (options_in_force v).v3
reply_for ask p (apdus.SearchResponse v) = SearchReply (counted (v.search_status && can_present p) v.result_count)
reply_for ask p (apdus.PresentResponse v) = PresentReply (length (records_in v.records))
reply_for ask p _ = PresentReply 0

-- an admitted call is an event, a refused call is none
abbrev pub made_event : Option CallRefused → Call → List PlanEvent → List PlanEvent
made_event None call events = plan_of call ∷ events
made_event (Some reason) call events = events

-- an answer is an event
abbrev pub answer_event : Ask → Past → Option Answer → List PlanEvent → List PlanEvent
answer_event ask p None events = events
answer_event ask p (Some answer) events =
    ReplyAccepted (operation_for answer.asked.what) (reply_for ask p answer.reply) ∷ events

-- an accepted reply with an answer is an event, a refused reply is none
abbrev pub got_event : Ask → Past → Result Taken Refused → List PlanEvent → List PlanEvent
got_event ask p (Ok taken) events = answer_event ask p (answer_in taken) events
got_event ask p (Err reason) events = events

-- the events of the plan in this log, newest first
abbrev pub events_of : Ask → Settings → Log → List PlanEvent
events_of ask settings [] = []
events_of ask settings (Made call ∷ log) =
    made_event (refusal (standing (past settings log)) call) call (events_of ask settings log)
events_of ask settings (Got reply ∷ log) =
    got_event ask (past settings (Got reply ∷ log)) (verdict (standing (past settings log)) reply)
    (events_of ask settings log)

-- ---- which calls are due

-- the call's operation has the number that the plan gives it
abbrev pub IsNumbered : Call → Type 0
IsNumbered (Search op set ask) = op ≡ number plan.Search
IsNumbered (Present op set ranges) = op ≡ number (plan.Present (positions ranges))
IsNumbered _ = Unit {0}

module _ (ask : Ask) (wanted : List ℕ) (step : ℕ) where
  -- a request is due by the plan; Close is due once all that the plan asks for was answered
  abbrev pub IsDueEvent : List PlanEvent → PlanEvent → Type 0
  IsDueEvent events (RequestSent a) = IsDue wanted step events a
  IsDueEvent events (ReplyAccepted a r) = ⊥
  IsDueEvent events CloseSent = IsPlanAnswered wanted step events

  -- an admitted call is numbered and due; a refused call sends nothing
  abbrev pub IsDueCall : List PlanEvent → Option CallRefused → Call → Type 0
  IsDueCall events None call = IsNumbered call × IsDueEvent events (plan_of call)
  IsDueCall events (Some reason) call = Unit {0}

  -- each admitted call was due when it was made
  abbrev pub IsDrivenLog : Settings → Log → Type 0
  IsDrivenLog settings [] = Unit {0}
  IsDrivenLog settings (Made call ∷ log) =
      IsDueCall (events_of ask settings log) (refusal (standing (past settings log)) call) call
      × IsDrivenLog settings log
  IsDrivenLog settings (Got reply ∷ log) = IsDrivenLog settings log

-- If each admitted call of a log was due, each accepted reply answers a request that was sent, once. Besides
-- Close, at most two requests were sent, and one for each wanted position up to the count.
pub record DrivenLaws : Type 0 where
  pub driven : (ask : Ask) (wanted : List ℕ) (step : ℕ) (settings : Settings) (log : Log)
      → IsDrivenLog ask wanted step settings log → plan.IsDriven wanted step (events_of ask settings log)
  pub bound : (ask : Ask) (wanted : List ℕ) (step : ℕ) (settings : Settings) (log : Log)
      → IsWanted wanted → 0 < step → IsDrivenLog ask wanted step settings log
      → length (asked (past settings log))
      ≤ 2 + length (up_to (count_in (replies_in (events_of ask settings log))) wanted)
