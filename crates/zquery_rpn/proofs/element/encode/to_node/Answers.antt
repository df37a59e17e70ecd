use Rattle.zquery_rpn.proofs.ElementTheory.Type1Making.{query_written}
use Rattle.zquery_rpn.proofs.element.encode.to_node.Goals as goal

pub returns-clause-written : goal.returns-clause-written
returns-clause-written c = query_written c.args.query.now c.write_query.result c.write_query.ensures
