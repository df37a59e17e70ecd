use Rattle.zber.proofs.Runs.{seen_cons}
use Rattle.zasn.specs.Places.{text_under}
use Rattle.zasn.proofs.Withins.{list_means}
use Rattle.zasn.proofs.texts.read_texts.Goals as goal

pub returns-in-Cons : goal.returns-in-Cons
returns-in-Cons c =
    list_means (text_under c.args.tag) c.args.node.now c.node.inside.tag c.in-Cons.nodes.items c.as_slice.result.now _
    (seen_cons c.node.inside c.args.node.now c.in-Cons.nodes c.node.view_is c.in-Cons.is) c.as_slice.ensures.value c.all_in.ensures
