use Rattle.zapdu.proofs.Written.{place_written}
use Rattle.zopac.specs.Opacs.{whole_opac}
use Rattle.zopac.proofs.opac.opac_node.Goals as goal

pub returns-clause-written : goal.returns-clause-written
returns-clause-written c = place_written whole_opac c.args.value.now c.to_element.result c.to_element.ensures
