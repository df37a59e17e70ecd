use Rattle.zapdu.proofs.Written.{apdu_written}
use Rattle.zapdu.proofs.encode.to_node.Goals as goal

pub returns-clause-written : goal.returns-clause-written
returns-clause-written c = apdu_written c.args.apdu.now c.write_apdu.result c.write_apdu.ensures
