use Rattle.std.proofs.Common.{◌∙◌, ap, sym}
use Rattle.zber.proofs.Runs.{seen_cons}
use Rattle.zasn.proofs.Withins.{more_than_one}
use Rattle.zasn.proofs.owned.take_any.Goals as goal

pub returns : goal.returns
returns c =
    sym (more_than_one c.args.node c.node.inside.tag c.in-Cons.nodes.items c.new-parts.result c.next.new.self c.in_ok-only-in-Cons.only c.len.result
    (seen_cons c.node.inside c.args.node c.in-Cons.nodes c.node.view_is c.in-Cons.is) (c.new-parts.ensures ∙ ap (λ v. v.items) c.in-Cons.nodes-is) c.in_ok-only-in-Cons.ensures.some c.len.ensures c.if-len-eq0.false)
