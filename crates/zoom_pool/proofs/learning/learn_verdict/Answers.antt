use Rattle.zoom_pool.proofs.learning.learn_verdict.Goals as goal

pub returns-in-Ok-clause-ok : goal.returns-in-Ok-clause-ok
returns-in-Ok-clause-ok c = rw c.in-Ok.is c.learn.ensures.ok
