use Rattle.std.proofs.Common.{◌∙◌, ap}
use Rattle.zber.proofs.Runs.{seen_cons}
use Rattle.zasn.proofs.Withins.{taken_means}
use Rattle.zasn.proofs.owned.take_within.Goals as goal

pub returns : goal.returns
returns g c =
    taken_means g.T.Taken.table.at c.args.node c.node.inside.tag c.in-Cons.nodes.items c.new-parts.result c.take.result c.take.new.parts
    (seen_cons c.node.inside c.args.node c.in-Cons.nodes c.node.view_is c.in-Cons.is) (c.new-parts.ensures ∙ ap (λ v. v.items) c.in-Cons.nodes-is) c.take.ensures.finds
