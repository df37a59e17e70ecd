use Rattle.zmeta_offline.proofs.Querying.{built, spelled}
use Rattle.zmeta_offline.proofs.pqf.node_of.Goals as goal

pub returns-clause-memory : goal.returns-clause-memory
returns-clause-memory c = built c.args.query.now c.to_node.result c.text_spellable.ensures c.requires c.to_node.ensures.written

pub returns-clause-spelled : goal.returns-clause-spelled
returns-clause-spelled c = spelled c.args.query.now c.to_node.result c.to_node.ensures.spelled
