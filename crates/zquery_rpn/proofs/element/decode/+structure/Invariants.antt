use Rattle.std.proofs.Common.{◌+◌, ◌*◌}
use Rattle.zber.specs.Elements.{forest, count_of, element_count}
use Rattle.zquery_rpn.proofs.element.decode.+structure.Given as goal

abbrev pub decreases-structure : goal.decreases-structure
decreases-structure l = 2 * element_count l.node.now

abbrev pub decreases-rpn_rpn_op : goal.decreases-rpn_rpn_op
decreases-rpn_rpn_op l = 2 * count_of (forest l.nodes.now) + 1
