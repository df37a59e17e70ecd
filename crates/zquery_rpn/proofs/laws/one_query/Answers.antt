use Rattle.zquery_rpn.proofs.ElementTheory.Type1Making.{one_query}
use Rattle.zquery_rpn.proofs.laws.one_query.Goals as goal

pub returns : goal.returns
returns c = one_query
