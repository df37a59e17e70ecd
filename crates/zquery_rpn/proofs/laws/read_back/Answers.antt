use Rattle.zquery_rpn.proofs.ElementTheory.Type1Answers.{read_back}
use Rattle.zquery_rpn.proofs.laws.read_back.Goals as goal

pub returns : goal.returns
returns c = read_back
