use Rattle.zorigin.proofs.ReplySteps.{settled_after}
use Rattle.zorigin.proofs.origin.Origin.accept.Goals as goal

pub returns-clause-after : goal.returns-clause-after
returns-clause-after c = λ reply judgement settings log after taken. settled_after settings log reply after (judgement settings log after taken) c.settle.ensures
