use Rattle.std.proofs.Common.{◌≡◌, ◌≢◌, Result, Ok, Err, ap, refl, subst, ◌∙◌}
use Rattle.std.specs.Prelude.{IfErr}
use Rattle.zapdu.specs.declared.apdu.Apdu.{Apdu}
use Rattle.zorigin.specs.declared.answer.Taken.{Taken}
use Rattle.zorigin.specs.declared.answer.Taken.TheVariants as taken
use Rattle.zorigin.specs.declared.refusal.Refused.{Refused}
use Rattle.zorigin.specs.declared.refusal.Refused.TheVariants as refused
use Rattle.zorigin.specs.Standings.{Standing}
use Rattle.zorigin.specs.Replies.{HasAnswer}
use Rattle.zorigin.specs.Log.{IsResultOfTake, IsAcceptedReply}
use Rattle.zoom_pool.specs.Transcripts.{outcome_of_reply}
use Rattle.zoom_pool.proofs.Taking.{processed_input, news_part}
use Rattle.zoom_pool.proofs.processing.process_reply.Goals as goal

no_ok : {E : Type 0} (r : Result (Unit {0}) E) (e : E) → r ≡ Ok tt → r ≡ Err e → ⊥
no_ok r e a b = cc

-- adding what was judged found no memory, so the reply is accepted and has an answer
accepted : {E : Type 0} (s : Standing) (reply : Apdu) (judged : Result Taken Refused) (added : Result (Unit {0}) E) (e : E)
    → IsResultOfTake s reply judged → (judged ≡ Err refused.Memory → IsAcceptedReply s reply)
    → (judged ≡ Ok taken.Closed → added ≡ Ok tt) → IfErr judged (λ reason. reason ≢ refused.Memory → added ≡ Ok tt)
    → added ≡ Err e → IsAcceptedReply s reply
accepted s reply (Ok taken.Closed) added e answer copied closed other is = absurd (no_ok added e (closed refl) is)
accepted s reply (Ok (taken.Opened a)) added e answer copied closed other is = λ settings log after. subst HasAnswer (answer settings log after tt) tt
accepted s reply (Ok (taken.Rejected a)) added e answer copied closed other is = λ settings log after. subst HasAnswer (answer settings log after tt) tt
accepted s reply (Ok (taken.Answered a)) added e answer copied closed other is = λ settings log after. subst HasAnswer (answer settings log after tt) tt
accepted s reply (Err refused.Memory) added e answer copied closed other is = copied refl
accepted s reply (Err reason) added e answer copied closed other is =
    let not : reason ≢ refused.Memory = λ m. cc in
    absurd (no_ok added e (other not) is)

pub accept-requires : goal.accept-requires
accept-requires c = (c.args.reply.now, c.judge-judged.ensures.returned)

pub returns-in-Ok-clause-done : goal.returns-in-Ok-clause-done
returns-in-Ok-clause-done c = λ p a d.
    let judgement = c.judge-judged.ensures.returned in
    processed_input c.args.target p c.args.reply.now c.judge-judged.result c.outcome_of.result _ _ _
    (judgement p.settings p.log a) c.in-Ok.ensures.taken
    (c.outcome_of.ensures ∙ ap outcome_of_reply (judgement p.settings p.log a c.in-Ok.ensures.taken))
    (c.accept.ensures.after c.args.reply.now judgement p.settings p.log a c.in-Ok.ensures.taken)
    c.in-Ok.ensures.ok

pub returns-in-Err-clause-part : goal.returns-in-Err-clause-part
returns-in-Err-clause-part c = λ p a e. news_part c.args.target p c.args.reply.now c.judge-judged.result _ _
    (c.judge-judged.ensures.returned p.settings p.log a) c.learn_verdict.ensures.part

pub returns-in-Err-clause-accepted : goal.returns-in-Err-clause-accepted
returns-in-Err-clause-accepted c = λ m. accepted c.args.origin.now c.args.reply.now c.judge-judged.result
    c.learn_verdict.result c.in-Err.field-0 c.judge-judged.ensures.returned c.judge-judged.ensures.copied
    c.learn_verdict.ensures.closed c.learn_verdict.ensures.refused c.in-Err.is
