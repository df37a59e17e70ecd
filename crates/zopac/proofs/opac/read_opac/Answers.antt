use Rattle.zber.proofs.Runs.{seen_tag}
use Rattle.zopac.proofs.OpacTheory.{read_stands}
use Rattle.zopac.proofs.opac.read_opac.Goals as goal

pub returns-clause-written : goal.returns-clause-written
returns-clause-written c =
    read_stands c.args.node.now c.node.inside.tag c.has.result c.of_element.result
    (seen_tag c.node.inside c.args.node.now c.node.view_is) c.has.ensures c.if-not-has.false c.of_element.ensures
