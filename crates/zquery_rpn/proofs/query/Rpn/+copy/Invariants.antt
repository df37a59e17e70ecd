use Rattle.std.proofs.Common.{◌+◌, ◌*◌}
use Rattle.zquery_rpn.specs.Trees.{height}
use Rattle.zquery_rpn.specs.QueryTrees.{rpn_tree}
use Rattle.zquery_rpn.proofs.query.Rpn.+copy.Given as goal

abbrev pub decreases-copy : goal.decreases-copy
decreases-copy l = 2 * height (rpn_tree l.self.now)

abbrev pub decreases-boxed_copy : goal.decreases-boxed_copy
decreases-boxed_copy l = 2 * height (rpn_tree l.self.now) + 1
