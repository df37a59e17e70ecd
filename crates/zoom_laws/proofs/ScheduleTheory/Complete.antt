-- A connection whose Close was admitted sent it.
use Rattle.std.proofs.Common.{◌≡◌, inl, inr, Bool, true, false, cond, List, [], ◌∷◌, Option, None, Some, Result, Ok, Err, refl, sym, ap, ◌∙◌}
use Rattle.std.specs.Prelude.{◌||◌}
use Rattle.std.specs.List.{list_any}
use Rattle.std.proofs.lemmas.Bool.{or_cases}
use Rattle.std.proofs.lemmas.List.Folds.{list_any-append}
use Rattle.zplan.specs.Plan.{PlanEvent, HasClosed}
use Rattle.zorigin.specs.declared.settings.Settings.{Settings}
use Rattle.zorigin.specs.declared.settings.Ask.{Ask}
use Rattle.zorigin.specs.declared.answer.Taken.{Taken}
use Rattle.zorigin.specs.declared.answer.Taken.TheVariants as taken
use Rattle.zorigin.specs.declared.refusal.CallRefused.{CallRefused}
use Rattle.zorigin.specs.declared.refusal.Refused.{Refused}
use Rattle.zorigin.specs.Standings.{Call, Init, Search, Present, Close, is_open}
use Rattle.zorigin.specs.Calls.{refusal}
use Rattle.zorigin.specs.Replies.{verdict}
use Rattle.zorigin.specs.Log.{Log, Made, Got, Past, past, standing, state_of, is_close_call, admit_unless, after_verdict}
use Rattle.zoom_pool.specs.Driving.{plan_of, got_event, made_event, events_of}

-- a reply admits no call
pub same_admitted : (p : Past) (v : Result Taken Refused) → (after_verdict p v).admitted ≡ p.admitted
same_admitted p (Ok (taken.Opened a)) = refl
same_admitted p (Ok (taken.Rejected a)) = refl
same_admitted p (Ok (taken.Answered a)) = refl
same_admitted p (Ok taken.Closed) = refl
same_admitted p (Err r) =
    elim (is_open (state_of p)) as (λ b. (cond b (record p { fault = Some r }) p).admitted ≡ p.admitted)
    [ true ↦ refl | false ↦ refl ]

module _ (ask : Ask) (settings : Settings) where
  got_closed : (p : Past) (v : Result Taken Refused) (events : List PlanEvent) → HasClosed events
      → HasClosed (got_event ask p v events)
  got_closed p (Ok (taken.Opened x)) events h = h
  got_closed p (Ok (taken.Rejected x)) events h = h
  got_closed p (Ok (taken.Answered x)) events h = h
  got_closed p (Ok taken.Closed) events h = h
  got_closed p (Err reason) events h = h

  call_closed : (call : Call) (events : List PlanEvent) → HasClosed events → HasClosed (plan_of call ∷ events)
  call_closed Init events h = h
  call_closed (Search op set a) events h = h
  call_closed (Present op set ranges) events h = h
  call_closed Close events h = tt

  close_closed : (call : Call) (events : List PlanEvent) → is_close_call call ≡ true → HasClosed (plan_of call ∷ events)
  close_closed Close events is = tt
  close_closed Init events is = absurd cc
  close_closed (Search op set a) events is = absurd cc
  close_closed (Present op set ranges) events is = absurd cc

  one_true : (b : Bool) → b || false ≡ true → b ≡ true
  one_true true e = refl
  one_true false e = e

  pub closed_in : (log : Log) → list_any is_close_call (past settings log).admitted ≡ true
      → HasClosed (events_of ask settings log)
  closed_in [] e = absurd cc
  closed_in (Made call ∷ log) e = made (closed_in log) (refusal (standing (past settings log)) call) e
    where
      made : (list_any is_close_call (past settings log).admitted ≡ true → HasClosed (events_of ask settings log))
          → (r : Option CallRefused) → list_any is_close_call (admit_unless (past settings log) call r).admitted ≡ true
          → HasClosed (made_event r call (events_of ask settings log))
      made before (Some r) f = before f
      made before None f = elim (or_cases (list_any is_close_call (past settings log).admitted) (is_close_call call || false)
          (sym (list_any-append is_close_call (past settings log).admitted (call ∷ [])) ∙ f)) [
            | inl was ↦ call_closed call (events_of ask settings log) (before was)
            | inr now ↦ close_closed call (events_of ask settings log) (one_true (is_close_call call) now)
          ]
  closed_in (Got reply ∷ log) e =
      let v = verdict (standing (past settings log)) reply in
      got_closed (past settings (Got reply ∷ log)) v (events_of ask settings log)
      (closed_in log (ap (λ l. list_any is_close_call l) (sym (same_admitted (past settings log) v)) ∙ e))
