use Rattle.zorigin.proofs.ReplySteps.{verdict_known, answer_known}
use Rattle.zorigin.proofs.origin.Origin.judge.Goals as goal

pub returns-clause-returned : goal.returns-clause-returned
returns-clause-returned c = λ settings log after taken. verdict_known settings log c.args.reply.now after (c.verdict.ensures.returned taken)

pub returns-clause-copied : goal.returns-clause-copied
returns-clause-copied c = λ e settings log after. answer_known settings log c.args.reply.now after (c.verdict.ensures.copied e)
