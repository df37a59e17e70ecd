use Rattle.std.proofs.Common.{◌+◌, ◌*◌, max}
use Rattle.zquery_rpn.specs.Trees.{height}
use Rattle.zquery_rpn.specs.QueryTrees.{rpn_tree}
use Rattle.zquery.proofs.notation.print.+put.Given as goal

abbrev pub decreases-put_both : goal.decreases-put_both
decreases-put_both l = 2 * max (height (rpn_tree l.left.now)) (height (rpn_tree l.right.now)) + 1

abbrev pub decreases-put_tree : goal.decreases-put_tree
decreases-put_tree l = 2 * height (rpn_tree l.rpn.now)
