use Rattle.std.proofs.Common.{◌≡◌, Err, ◌∙◌, rules}
use Rattle.zorigin.specs.Standings.{Search}
use Rattle.zorigin.proofs.Calling.{refused_early, unsent, sent_so, ready_search, early_other}
use Rattle.zorigin.proofs.origin.Origin.make_search.Goals as goal

pub returns-in-Some-clause-returned : goal.returns-in-Some-clause-returned
returns-in-Some-clause-returned c = λ _. (refused_early c.args.self.now (Search c.args.op c.args.set c.args.ask.now) c.in-Some.reason (search rules)).answer

pub returns-in-Some-clause-after : goal.returns-in-Some-clause-after
returns-in-Some-clause-after c = λ _. (refused_early c.args.self.now (Search c.args.op c.args.set c.args.ask.now) c.in-Some.reason (search rules)).new

pub returns-in_err-sent-clause-returned : goal.returns-in_err-sent-clause-returned
returns-in_err-sent-clause-returned c =
    let is : c.from_residual.result ≡ Err c.in_err-sent.field-0.0 = search rules in
    let ready = ready_search c.args.self.now c.args.op c.args.set c.args.ask.now (search rules) in
    rw is (λ m. (unsent c.args.self.now (Search c.args.op c.args.set c.args.ask.now) _ c.in_err-sent.field-0.0 ready (search rules) m).answer)

pub returns-in_err-sent-clause-after : goal.returns-in_err-sent-clause-after
returns-in_err-sent-clause-after c =
    let is : c.from_residual.result ≡ Err c.in_err-sent.field-0.0 = search rules in
    let ready = ready_search c.args.self.now c.args.op c.args.set c.args.ask.now (search rules) in
    rw is (λ m. (unsent c.args.self.now (Search c.args.op c.args.set c.args.ask.now) _ c.in_err-sent.field-0.0 ready (search rules) m).new)

pub returns-in-Ok-clause-returned : goal.returns-in-Ok-clause-returned
returns-in-Ok-clause-returned c =
    let ready = ready_search c.args.self.now c.args.op c.args.set c.args.ask.now (search rules) in
    λ _. (sent_so c.args.self.now (Search c.args.op c.args.set c.args.ask.now) _ c.in_ok-sent.sent ready (search rules)).answer

pub returns-in-Ok-clause-after : goal.returns-in-Ok-clause-after
returns-in-Ok-clause-after c =
    let ready = ready_search c.args.self.now c.args.op c.args.set c.args.ask.now (search rules) in
    λ _. (search rules) ∙ (sent_so c.args.self.now (Search c.args.op c.args.set c.args.ask.now) _ c.in_ok-sent.sent ready (search rules)).new

pub returns-in-Some-clause-memory : goal.returns-in-Some-clause-memory
returns-in-Some-clause-memory c = λ m. absurd (early_other c.args.self.now (Search c.args.op c.args.set c.args.ask.now) c.in-Some.reason (search rules) (cc))
