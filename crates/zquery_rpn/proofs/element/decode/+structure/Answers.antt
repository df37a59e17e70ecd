use Rattle.std.proofs.Common.{sym, ◌∙◌}
use Rattle.zber.proofs.Runs.{seen_cons}
use Rattle.zquery_rpn.proofs.ElementTheory.Type1Answers.{joined_means}
use Rattle.zquery_rpn.proofs.element.decode.+structure.Goals as goal

pub structure-returns-then-has_tag-2 : goal.structure-returns-then-has_tag-2
structure-returns-then-has_tag-2 t c =
    joined_means c.args.node.now c.node.inside.tag c.in-Cons.nodes.items c.as_slice-then-has_tag-2.result.now c.rpn_rpn_op.result
    (seen_cons c.node.inside c.args.node.now c.in-Cons.nodes c.node.view_is c.in-Cons.is) c.as_slice-then-has_tag-2.ensures.value (sym c.has_tag-else-has_tag.ensures ∙ c.if-has_tag-2.true) c.rpn_rpn_op.ensures
