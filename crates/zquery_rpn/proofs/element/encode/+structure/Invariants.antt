use Rattle.std.proofs.Common.{◌+◌, ◌*◌}
use Rattle.std.specs.Prelude.{max}
use Rattle.zquery_rpn.specs.Trees.{height}
use Rattle.zquery_rpn.specs.QueryTrees.{rpn_tree}
use Rattle.zquery_rpn.proofs.element.encode.+structure.Given as goal

abbrev pub decreases-structure : goal.decreases-structure
decreases-structure l = 2 * height (rpn_tree l.rpn.now)

abbrev pub decreases-rpn_rpn_op : goal.decreases-rpn_rpn_op
decreases-rpn_rpn_op l = 2 * max (height (rpn_tree l.left.now)) (height (rpn_tree l.right.now)) + 1
