use Rattle.std.proofs.Common.{Ok, Err, subst, sym}
use Rattle.zoom_pool.specs.PoolSteps.{IsTakeResult}
use Rattle.zoom_pool.proofs.Outcomes.{take_answer}
use Rattle.zoom_pool.proofs.pool.Pool.take.Goals as goal

pub returns-in-Ok-clause-returned : goal.returns-in-Ok-clause-returned
returns-in-Ok-clause-returned c = subst (λ z. IsTakeResult c.args.c c.args.self.now (Ok z)) (sym c.step_of.ensures)
    (take_answer c.args.c c.args.self.now (Ok c.in-Ok.outcome) c.in-Ok.ensures.returned)

pub returns-in-Err-clause-returned : goal.returns-in-Err-clause-returned
returns-in-Err-clause-returned c = take_answer c.args.c c.args.self.now (Err c.in-Err.error) c.in-Err.ensures.returned
