use Rattle.std.proofs.Common.{◌≡◌, rules, subst}
use Rattle.zorigin.specs.Ranges.{one_range}
use Rattle.zorigin.specs.Standings.{Present}
use Rattle.zoom_pool.specs.CallsOf.{call_of}
use Rattle.std.proofs.lemmas.Result.{IfOk-weaker}
use Rattle.zoom_pool.specs.PoolSteps.{IsCallResult, IsRequestPut}
use Rattle.zoom_pool.proofs.result_set.ResultSet.present.Goals as goal

pub returns-clause-returned : goal.returns-clause-returned
returns-clause-returned c =
    let asks : call_of c.present_call-call.result ≡ Present c.args.op c.args.self.set (one_range c.args.start c.args.n) =
    search rules in
    subst (λ z. IsCallResult c.args.self.c z c.args.pool.now c.call-answer.result) asks c.call-answer.ensures.returned

pub returns-clause-put : goal.returns-clause-put
returns-clause-put c =
    let asks : call_of c.present_call-call.result ≡ Present c.args.op c.args.self.set (one_range c.args.start c.args.n) = search rules in
    IfOk-weaker c.call-answer.result _ _
    (λ _ put. subst (λ z. IsRequestPut c.args.self.c z c.args.pool.now c.call-answer.new.self) asks put)
    c.call-answer.ensures.put
