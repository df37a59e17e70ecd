-- Whether the origin admitted Close, and the state of an accepted association.
use Rattle.std.proofs.Common.{◌≡◌, Bool, true, false, cond, not, List, [], ◌∷◌, Option, None, Some, Result, Ok, Err}
use Rattle.std.proofs.Common.{refl, sym, subst, ◌∙◌, true≢false}
use Rattle.std.specs.Prelude.{◌||◌}
use Rattle.std.specs.List.{list_any}
use Rattle.zapdu.specs.declared.apdu.Apdu.{Apdu}
use Rattle.zapdu.specs.declared.apdu.Apdu.TheVariants as apdus
use Rattle.zplan.specs.Plan.{PlanEvent, RequestSent, ReplyAccepted, CloseSent}
use Rattle.zorigin.specs.declared.settings.Settings.{Settings}
use Rattle.zorigin.specs.declared.settings.Ask.{Ask}
use Rattle.zorigin.specs.declared.answer.Answer.{Answer}
use Rattle.zorigin.specs.declared.answer.Taken.{Taken}
use Rattle.zorigin.specs.declared.answer.Taken.TheVariants as taken
use Rattle.zorigin.specs.declared.refusal.CallRefused.{CallRefused}
use Rattle.zorigin.specs.declared.refusal.Refused.{Refused}
use Rattle.zorigin.specs.declared.state.State.TheVariants as origins
use Rattle.zorigin.specs.Standings.{Call, Init, Search, Present, Close, is_open, is_ready, ready}
use Rattle.zorigin.specs.Changes.{options_in_force}
use Rattle.zorigin.specs.Calls.{refusal}
use Rattle.zorigin.specs.Replies.{verdict}
use Rattle.zorigin.specs.Log.{Log, Made, Got, Past, past, standing, state_of, state_from, state_by, closing_state, opening}
use Rattle.zorigin.specs.Log.{is_close_call, is_init_call, admit_unless, after_verdict}
use Rattle.zoom_pool.specs.States.{state_as, is_stopped}
use Rattle.zoom_pool.specs.Driving.{plan_of, events_of, made_event, got_event}
use Rattle.zoom_pool.specs.Steering.{is_rejection, is_rejected}
use Rattle.zoom_pool.specs.Drivers.{HasOpening}
use Rattle.zoom_pool.proofs.Phases.{any_last}

-- ---- Close

abbrev pub closes_in : List PlanEvent → Bool
closes_in [] = false
closes_in (RequestSent a ∷ events) = closes_in events
closes_in (ReplyAccepted a r ∷ events) = closes_in events
closes_in (CloseSent ∷ events) = true

or_false : (b : Bool) → (b || false) ≡ b
or_false true = refl
or_false false = refl

or_true : (b : Bool) → (b || true) ≡ true
or_true true = refl
or_true false = refl

closing_more : (ask : Ask) (settings : Settings) (log : Log) (call : Call)
    → list_any is_close_call (past settings log).admitted ≡ closes_in (events_of ask settings log)
    → (list_any is_close_call (past settings log).admitted || is_close_call call)
    ≡ closes_in (plan_of call ∷ events_of ask settings log)
closing_more ask settings log Init e = or_false (list_any is_close_call (past settings log).admitted) ∙ e
closing_more ask settings log (Search op set asks) e =
    or_false (list_any is_close_call (past settings log).admitted) ∙ e
closing_more ask settings log (Present op set ranges) e =
    or_false (list_any is_close_call (past settings log).admitted) ∙ e
closing_more ask settings log Close e = or_true (list_any is_close_call (past settings log).admitted)

closing_made : (ask : Ask) (settings : Settings) (log : Log) (call : Call) (r : Option CallRefused)
    → list_any is_close_call (past settings log).admitted ≡ closes_in (events_of ask settings log)
    → list_any is_close_call (admit_unless (past settings log) call r).admitted
    ≡ closes_in (made_event r call (events_of ask settings log))
closing_made ask settings log call None e =
    any_last (past settings log).admitted call ∙ closing_more ask settings log call e
closing_made ask settings log call (Some reason) e = e

closing_got : (ask : Ask) (settings : Settings) (log : Log) (reply : Apdu) (v : Result Taken Refused)
    → list_any is_close_call (past settings log).admitted ≡ closes_in (events_of ask settings log)
    → list_any is_close_call (after_verdict (past settings log) v).admitted
    ≡ closes_in (got_event ask (past settings (Got reply ∷ log)) v (events_of ask settings log))
closing_got ask settings log reply (Ok (taken.Opened a)) e = e
closing_got ask settings log reply (Ok (taken.Rejected a)) e = e
closing_got ask settings log reply (Ok (taken.Answered a)) e = e
closing_got ask settings log reply (Ok taken.Closed) e = e
closing_got ask settings log reply (Err reason) e =
    let p = past settings log in
    elim (is_open (state_of p)) as (λ b. list_any is_close_call (cond b (record p { fault = Some reason }) p).admitted
    ≡ list_any is_close_call p.admitted) [ true ↦ refl | false ↦ refl ] ∙ e

-- the events show whether Close was admitted
pub closing_known : (ask : Ask) (settings : Settings) (log : Log)
    → list_any is_close_call (past settings log).admitted ≡ closes_in (events_of ask settings log)
closing_known ask settings [] = refl
closing_known ask settings (Made call ∷ log) =
    closing_made ask settings log call (refusal (standing (past settings log)) call) (closing_known ask settings log)
closing_known ask settings (Got reply ∷ log) =
    closing_got ask settings log reply (verdict (standing (past settings log)) reply) (closing_known ask settings log)

-- ---- states

ready_by : (reply : Apdu) → is_stopped (state_as (closing_state false (state_by reply))) ≡ false
    → is_ready (closing_state false (state_by reply)) ≡ true
ready_by (apdus.InitRequest v) f = absurd (true≢false f)
ready_by (apdus.InitResponse v) f =
    elim v.result as (λ b. is_stopped (state_as (closing_state false (cond b (ready (options_in_force v)) origins.Closed))) ≡ false
    → is_ready (closing_state false (cond b (ready (options_in_force v)) origins.Closed)) ≡ true) [
      | true ↦ λ g. refl
      | false ↦ λ g. absurd (true≢false g)
    ] f
ready_by (apdus.SearchRequest v) f = absurd (true≢false f)
ready_by (apdus.SearchResponse v) f = absurd (true≢false f)
ready_by (apdus.PresentRequest v) f = absurd (true≢false f)
ready_by (apdus.PresentResponse v) f = absurd (true≢false f)
ready_by (apdus.Close v) f = absurd (true≢false f)

ready_from : (fault : Option Refused) (closed begun : Bool) (answer : Answer)
    → is_stopped (state_as (state_from fault closed false begun (Some answer))) ≡ false
    → is_ready (state_from fault closed false begun (Some answer)) ≡ true
ready_from (Some reason) closed begun answer f = absurd (true≢false f)
ready_from None true begun answer f = absurd (true≢false f)
ready_from None false begun answer f = ready_by answer.reply f

-- an association that was answered, and is neither stopped nor closed, is Ready
pub open_ready : (p : Past) → HasOpening p → list_any is_close_call p.admitted ≡ false
    → is_stopped (state_as (state_of p)) ≡ false → is_ready (state_of p) ≡ true
open_ready p o c =
    let begun = list_any is_init_call p.admitted in
    subst (λ b. is_stopped (state_as (state_from p.fault p.closed b begun (opening p))) ≡ false
    → is_ready (state_from p.fault p.closed b begun (opening p)) ≡ true) (sym c)
    (subst (λ a. is_stopped (state_as (state_from p.fault p.closed false begun a)) ≡ false
    → is_ready (state_from p.fault p.closed false begun a) ≡ true) (sym o.1)
    (ready_from p.fault p.closed begun o.0))

rejected_by : (closing : Bool) (reply : Apdu) → is_rejection reply ≡ true
    → is_stopped (state_as (closing_state closing (state_by reply))) ≡ true
rejected_by closing (apdus.InitRequest v) t = refl
rejected_by closing (apdus.InitResponse v) t =
    elim v.result as (λ b. not b ≡ true
    → is_stopped (state_as (closing_state closing (cond b (ready (options_in_force v)) origins.Closed))) ≡ true) [
      | true ↦ λ g. absurd (true≢false (sym g))
      | false ↦ λ g. refl
    ] t
rejected_by closing (apdus.SearchRequest v) t = refl
rejected_by closing (apdus.SearchResponse v) t = refl
rejected_by closing (apdus.PresentRequest v) t = refl
rejected_by closing (apdus.PresentResponse v) t = refl
rejected_by closing (apdus.Close v) t = refl

rejected_from : (fault : Option Refused) (closed closing begun : Bool) (o : Option Answer) → is_rejected o ≡ true
    → is_stopped (state_as (state_from fault closed closing begun o)) ≡ true
rejected_from fault closed closing begun None t = absurd (true≢false (sym t))
rejected_from (Some reason) closed closing begun (Some answer) t = refl
rejected_from None true closing begun (Some answer) t = refl
rejected_from None false closing begun (Some answer) t = rejected_by closing answer.reply t

-- a rejected association is stopped
pub rejected_stopped : (p : Past) → is_rejected (opening p) ≡ true → is_stopped (state_as (state_of p)) ≡ true
rejected_stopped p t = rejected_from p.fault p.closed (list_any is_close_call p.admitted)
    (list_any is_init_call p.admitted) (opening p) t
