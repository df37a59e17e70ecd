use Rattle.zber.proofs.Runs.{seen_tag}
use Rattle.zapdu.proofs.Tagged.{not_there}
use Rattle.zapdu.proofs.decode.tagged_of.Goals as goal

pub returns-then-not-has-clause-none : goal.returns-then-not-has-clause-none
returns-then-not-has-clause-none g c =
    λ v h. not_there c.args.node.now c.node.inside.tag g.T.Tagged.place.tags c.has.result (seen_tag c.node.inside c.args.node.now c.node.view_is) c.has.ensures c.if-not-has.true (g.T.Tagged.place.begins v c.args.node.now h)
