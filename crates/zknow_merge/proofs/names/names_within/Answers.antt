use Rattle.zasn_tables.specs.Within.{whole_of}
use Rattle.zber.proofs.Runs.{seen_cons}
use Rattle.zasn.proofs.Withins.{list_means}
use Rattle.zknow.specs.Saved.SavedFacts.{saved_name}
use Rattle.zknow_merge.proofs.names.names_within.Goals as goal

pub returns-in-Cons : goal.returns-in-Cons
returns-in-Cons c =
    list_means (whole_of saved_name) c.args.node.now c.node.inside.tag c.in-Cons.nodes.items c.as_slice.result.now _
    (seen_cons c.node.inside c.args.node.now c.in-Cons.nodes c.node.view_is c.in-Cons.is) c.as_slice.ensures.value c.names_in.ensures
