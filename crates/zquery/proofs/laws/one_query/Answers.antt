use Rattle.zquery.proofs.NotationTheory.Unique.{one-query}
use Rattle.zquery.proofs.laws.one_query.Goals as goal

pub returns : goal.returns
returns c = one-query
