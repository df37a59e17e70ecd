use Rattle.std.proofs.Common.{ap}
use Rattle.zber.proofs.Runs.{seen_cons}
use Rattle.zasn_tables.specs.Within.{whole_of}
use Rattle.zasn.proofs.Withins.{list_means}
use Rattle.zasn.proofs.sequence_of.SeqContents.take_node.Goals as goal

pub returns : goal.returns
returns g c =
    list_means (whole_of g.T.Tagged.place) c.args.node c.node.inside.tag c.in-Cons.nodes.items _ c.all_taken.result
    (seen_cons c.node.inside c.args.node c.in-Cons.nodes c.node.view_is c.in-Cons.is) (ap (λ v. v.items) c.in-Cons.nodes-is) c.all_taken.ensures
