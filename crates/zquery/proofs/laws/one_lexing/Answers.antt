use Rattle.zquery.proofs.NotationTheory.OneAnswers.{one-lexing}
use Rattle.zquery.proofs.laws.one_lexing.Goals as goal

pub returns : goal.returns
returns c = one-lexing
