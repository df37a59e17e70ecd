-- The origin of each reply of a log.
use Rattle.std.proofs.Common.{◌≡◌, ℕ, true, false, cond, List, [], ◌∷◌, ◌++◌, Option, None, Some, Result, Ok, Err, refl, sym, subst, ◌∙◌}
use Rattle.zplan.specs.Plan.{Operation, ReplyAccepted, Reply, same, asked_in, replies_in, IsDriven}
use Rattle.zplan.specs.Positions.{IsIn}
use Rattle.zplan.proofs.Order.{same_is}
use Rattle.zapdu.specs.declared.apdu.Apdu.{Apdu}
use Rattle.zorigin.specs.declared.settings.Settings.{Settings}
use Rattle.zorigin.specs.declared.settings.Ask.{Ask}
use Rattle.zorigin.specs.declared.answer.Answer.{Answer}
use Rattle.zorigin.specs.declared.answer.Taken.{Taken}
use Rattle.zorigin.specs.declared.answer.Taken.TheVariants as taken
use Rattle.zorigin.specs.declared.refusal.CallRefused.{CallRefused}
use Rattle.zorigin.specs.declared.refusal.Refused.{Refused}
use Rattle.zorigin.specs.Standings.{Call, is_open}
use Rattle.zorigin.specs.Calls.{refusal}
use Rattle.zorigin.specs.Replies.{verdict}
use Rattle.zorigin.specs.Log.{Log, Made, Got, Past, past, standing, state_of, admit_unless, after_verdict}
use Rattle.zorigin.specs.Laws.{IsOrderly}
use Rattle.zoom_pool.specs.Transcripts.{answer_in}
use Rattle.zoom_pool.specs.Driving.{operation_for, reply_for, got_event, made_event, events_of, IsDrivenLog}
use Rattle.zoom_pool.proofs.Drivings.{in_last, in_front, replies_call, driven}

-- An answer to the operation was accepted with this reply, when the operation was unanswered in the log. What was
-- accepted until then is still accepted.
pub record CameFrom
    (ask : Ask) (wanted : List ℕ) (step : ℕ) (settings : Settings) (log : Log) (a : Operation) (r : Reply)
    : Type 0 where
  pub earlier : Log
  pub reply : Apdu
  pub taken : Taken
  pub answer : Answer
  pub judged : verdict (standing (past settings earlier)) reply ≡ Ok taken
  pub brings : answer_in taken ≡ Some answer
  pub for : operation_for answer.asked.what ≡ a
  pub says : r ≡ reply_for ask (past settings (Got reply ∷ earlier)) answer.reply
  pub driven : IsDrivenLog ask wanted step settings earlier
  pub sent : IsIn a (asked_in (events_of ask settings earlier))
  pub none : replies_in (events_of ask settings earlier) a ≡ None
  pub within : (x : Answer) → IsIn x (past settings (Got reply ∷ earlier)).accepted
      → IsIn x (past settings log).accepted
  pub there : IsIn answer (past settings log).accepted

-- what was accepted stays accepted, whatever is called or taken later
pub kept_call : (p : Past) (call : Call) (r : Option CallRefused) (x : Answer) → IsIn x p.accepted
    → IsIn x (admit_unless p call r).accepted
kept_call p call None x i = i
kept_call p call (Some r) x i = i

pub kept_reply : (p : Past) (v : Result Taken Refused) (x : Answer) → IsIn x p.accepted
    → IsIn x (after_verdict p v).accepted
kept_reply p (Ok (taken.Opened y)) x i = in_front x y p.accepted i
kept_reply p (Ok (taken.Rejected y)) x i = in_front x y p.accepted i
kept_reply p (Ok (taken.Answered y)) x i = in_front x y p.accepted i
kept_reply p (Ok taken.Closed) x i = i
kept_reply p (Err r) x i =
    elim (is_open (state_of p)) as (λ b. IsIn x (cond b (record p { fault = Some r }) p).accepted)
    [ true ↦ i | false ↦ i ]

module _ (ask : Ask) (wanted : List ℕ) (step : ℕ) (settings : Settings)
    (orderly : (s : Settings) (l : Log) → IsOrderly (past s l)) where
  came_later : (log : Log) (more : Log) (a : Operation) (r : Reply)
      → ((x : Answer) → IsIn x (past settings log).accepted → IsIn x (past settings more).accepted)
      → CameFrom ask wanted step settings log a r → CameFrom ask wanted step settings more a r
  came_later log more a r keeps c = record {
    earlier = c.earlier;
    reply = c.reply;
    taken = c.taken;
    answer = c.answer;
    judged = c.judged;
    brings = c.brings;
    for = c.for;
    says = c.says;
    driven = c.driven;
    sent = c.sent;
    none = c.none;
    within = λ x i. keeps x (c.within x i);
    there = keeps c.answer c.there;
  }

  brought : (p : Past) (t : Taken) (x : Answer) → answer_in t ≡ Some x → IsIn x (after_verdict p (Ok t)).accepted
  brought p (taken.Opened y) x e = subst (λ z. IsIn z (p.accepted ++ y ∷ [])) (let is : y ≡ x = cc in is) (in_last y p.accepted)
  brought p (taken.Rejected y) x e = subst (λ z. IsIn z (p.accepted ++ y ∷ [])) (let is : y ≡ x = cc in is) (in_last y p.accepted)
  brought p (taken.Answered y) x e = subst (λ z. IsIn z (p.accepted ++ y ∷ [])) (let is : y ≡ x = cc in is) (in_last y p.accepted)
  brought p taken.Closed x e = absurd cc

  pub came : (log : Log) → IsDrivenLog ask wanted step settings log → (a : Operation) (r : Reply)
      → replies_in (events_of ask settings log) a ≡ Some r → CameFrom ask wanted step settings log a r
  came [] d a r e = absurd cc
  came (Made call ∷ log) d a r e = made (came log d.1 a r) (refusal (standing (past settings log)) call) refl e
    where
      made : (replies_in (events_of ask settings log) a ≡ Some r → CameFrom ask wanted step settings log a r)
          → (o : Option CallRefused) → refusal (standing (past settings log)) call ≡ o
          → replies_in (made_event o call (events_of ask settings log)) a ≡ Some r
          → CameFrom ask wanted step settings (Made call ∷ log) a r
      made old (Some o) is f = came_later log (Made call ∷ log) a r
          (λ x. kept_call (past settings log) call (refusal (standing (past settings log)) call) x) (old f)
      made old None is f = came_later log (Made call ∷ log) a r
          (λ x. kept_call (past settings log) call (refusal (standing (past settings log)) call) x)
          (old (sym (replies_call a call (events_of ask settings log)) ∙ f))
  came (Got reply ∷ log) d a r e =
      got (came log d a r) (verdict (standing (past settings log)) reply) refl
      (driven ask settings wanted step orderly (Got reply ∷ log) d) e
    where
      p : Past
      p = past settings log

      q : Past
      q = past settings (Got reply ∷ log)

      Before : Type 0
      Before = replies_in (events_of ask settings log) a ≡ Some r → CameFrom ask wanted step settings log a r

      before : Before → replies_in (events_of ask settings log) a ≡ Some r → CameFrom ask wanted step settings (Got reply ∷ log) a r
      before old f = came_later log (Got reply ∷ log) a r (λ x. kept_reply p (verdict (standing p) reply) x) (old f)

      now : (t : Taken) (x : Answer) → verdict (standing p) reply ≡ Ok t → answer_in t ≡ Some x
          → operation_for x.asked.what ≡ a → reply_for ask q x.reply ≡ r → IsIn a (asked_in (events_of ask settings log))
          → replies_in (events_of ask settings log) a ≡ None → CameFrom ask wanted step settings (Got reply ∷ log) a r
      now t x is by for says sent none = record {
        earlier = log;
        reply = reply;
        taken = t;
        answer = x;
        judged = is;
        brings = by;
        for = for;
        says = sym says;
        driven = d;
        sent = sent;
        none = none;
        within = λ y i. i;
        there = subst (λ v. IsIn x (after_verdict p v).accepted) (sym is) (brought p t x by);
      }

      either : Before → (t : Taken) (x : Answer) → verdict (standing p) reply ≡ Ok t → answer_in t ≡ Some x
          → IsDriven wanted step (ReplyAccepted (operation_for x.asked.what) (reply_for ask q x.reply) ∷ events_of ask settings log)
          → replies_in (ReplyAccepted (operation_for x.asked.what) (reply_for ask q x.reply) ∷ events_of ask settings log) a ≡ Some r
          → CameFrom ask wanted step settings (Got reply ∷ log) a r
      either old t x is by g f =
          elim (same (operation_for x.asked.what) a) as
          (λ b. same (operation_for x.asked.what) a ≡ b
          → cond b (Some (reply_for ask q x.reply)) (replies_in (events_of ask settings log) a) ≡ Some r
          → CameFrom ask wanted step settings (Got reply ∷ log) a r) [
            | true ↦ λ b k.
                let op = same_is (operation_for x.asked.what) a b in
                now t x is by op (let y : reply_for ask q x.reply ≡ r = cc in y)
                (subst (λ z. IsIn z (asked_in (events_of ask settings log))) op g.0)
                (subst (λ z. replies_in (events_of ask settings log) z ≡ None) op g.1)
            | false ↦ λ b k. before old k
          ] refl f

      got : Before → (v : Result Taken Refused) → verdict (standing p) reply ≡ v
          → IsDriven wanted step (got_event ask q v (events_of ask settings log))
          → replies_in (got_event ask q v (events_of ask settings log)) a ≡ Some r
          → CameFrom ask wanted step settings (Got reply ∷ log) a r
      got old (Ok (taken.Opened x)) is g f = either old (taken.Opened x) x is refl g f
      got old (Ok (taken.Rejected x)) is g f = either old (taken.Rejected x) x is refl g f
      got old (Ok (taken.Answered x)) is g f = either old (taken.Answered x) x is refl g f
      got old (Ok taken.Closed) is g f = before old f
      got old (Err reason) is g f = before old f
