use Rattle.std.proofs.Common.{◌≡◌, Err, ◌∙◌, rules}
use Rattle.zorigin.specs.Standings.{Close}
use Rattle.zorigin.proofs.Calling.{refused_early, unsent, sent_so, ready_close, close_late}
use Rattle.zorigin.proofs.origin.Origin.make_close.Goals as goal

pub returns-then-not-is_ready-clause-returned : goal.returns-then-not-is_ready-clause-returned
returns-then-not-is_ready-clause-returned c = λ _. (refused_early _ (Close) _ (close_late c.args.self.now (search rules))).answer

pub returns-then-not-is_ready-clause-after : goal.returns-then-not-is_ready-clause-after
returns-then-not-is_ready-clause-after c = λ _. (refused_early _ (Close) _ (close_late c.args.self.now (search rules))).new

pub returns-in_err-sent-clause-returned : goal.returns-in_err-sent-clause-returned
returns-in_err-sent-clause-returned c =
    let is : c.from_residual.result ≡ Err c.in_err-sent.field-0.0 = search rules in
    let ready = ready_close c.args.self.now (search rules) in
    rw is (λ m. (unsent c.args.self.now (Close) _ c.in_err-sent.field-0.0 ready (search rules) m).answer)

pub returns-in_err-sent-clause-after : goal.returns-in_err-sent-clause-after
returns-in_err-sent-clause-after c =
    let is : c.from_residual.result ≡ Err c.in_err-sent.field-0.0 = search rules in
    let ready = ready_close c.args.self.now (search rules) in
    rw is (λ m. (unsent c.args.self.now (Close) _ c.in_err-sent.field-0.0 ready (search rules) m).new)

pub returns-clause-returned : goal.returns-clause-returned
returns-clause-returned c =
    let ready = ready_close c.args.self.now (search rules) in
    λ _. (sent_so c.args.self.now (Close) _ c.in_ok-sent.sent ready (search rules)).answer

pub returns-clause-after : goal.returns-clause-after
returns-clause-after c =
    let ready = ready_close c.args.self.now (search rules) in
    λ _. (search rules) ∙ (sent_so c.args.self.now (Close) _ c.in_ok-sent.sent ready (search rules)).new
