use Rattle.zber.proofs.Runs.{seen_cons}
use Rattle.zasn.proofs.Withins.{not_one}
use Rattle.zasn.proofs.any.sole.Goals as goal

pub returns-in-len2-up-clause-none : goal.returns-in-len2-up-clause-none
returns-in-len2-up-clause-none c =
    not_one c.args.node.now c.node.inside.tag c.in-Cons.nodes.items c.as_slice.result.now
    (seen_cons c.node.inside c.args.node.now c.in-Cons.nodes c.node.view_is c.in-Cons.is) c.as_slice.ensures.value c.in-len2-up.len_at_least
