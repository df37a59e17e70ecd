use Rattle.std.proofs.Common.{◌∙◌}
use Rattle.zber.proofs.Runs.{seen_cons}
use Rattle.zasn.proofs.Withins.{within_means}
use Rattle.zasn.proofs.production.read_within.Goals as goal

pub returns-in-Cons : goal.returns-in-Cons
returns-in-Cons g c =
    within_means g.T.Production.table.at c.args.node.now c.node.inside.tag c.in-Cons.nodes.items c.new-parts.result c.read.result c.read.new.parts
    (seen_cons c.node.inside c.args.node.now c.in-Cons.nodes c.node.view_is c.in-Cons.is) (c.new-parts.ensures ∙ c.as_slice.ensures.value) c.read.ensures.finds
