use Rattle.zquery_rpn.proofs.ElementTheory.Type1Answers.{read_is}
use Rattle.zquery_rpn.proofs.element.decode.from_node.Goals as goal

pub returns-clause-read : goal.returns-clause-read
returns-clause-read c = read_is c.args.node.now c.query_at.result c.query_at.ensures
