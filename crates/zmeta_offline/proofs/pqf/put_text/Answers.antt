use Rattle.zmeta_offline.proofs.Querying.{printed}
use Rattle.zmeta_offline.proofs.pqf.put_text.Goals as goal

pub returns-clause-memory : goal.returns-clause-memory
returns-clause-memory c = printed c.args.query.now c.print_pqf.result c.text_printable.ensures c.requires c.print_pqf.ensures.refused
