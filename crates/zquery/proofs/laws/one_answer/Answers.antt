use Rattle.zquery.proofs.NotationTheory.OneAnswers.{one-answer}
use Rattle.zquery.proofs.laws.one_answer.Goals as goal

pub returns : goal.returns
returns c = one-answer
