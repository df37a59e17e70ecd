use Rattle.std.proofs.Common.{refl}
use Rattle.zknow_runs.proofs.RunTheory.{err_any, put_on, put_new, held}
use Rattle.zknow_runs.proofs.run.RunList.put_behind.Goals as goal

pub returns-then-goes_on-clause-ok : goal.returns-then-goes_on-clause-ok
returns-then-goes_on-clause-ok c =
    put_on c.args.self.now c.args.reached c.args.one c.requires (c.goes_on.ensures.0 c.if-goes_on.true)

pub returns-clause-ok : goal.returns-clause-ok
returns-clause-ok c = λ records h.
    put_new c.args.self.now c.args.reached c.args.one c.requires _ c.in_ok-push.ensures.items records h _ refl refl

pub returns-in_err-push-clause-err : goal.returns-in_err-push-clause-err
returns-in_err-push-clause-err c = err_any c.from_residual.result
    (λ records h. held c.args.self.now _ c.in_err-push.ensures.items refl records h)
