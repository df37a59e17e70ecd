use Rattle.zapdu.proofs.ProductionTheory.SearchQueries.{sole_means}
use Rattle.zapdu.proofs.productions.search_query.query_in.Goals as goal

pub returns-in-Some : goal.returns-in-Some
returns-in-Some c = sole_means c.args.node.now c.in-Some.only.now c.query_of.result c.in-Some.ensures.some c.query_of.ensures
