use Rattle.std.proofs.Common.{◌-◌, ◌<◌}
use Rattle.zknow_merge.proofs.front.front_element.Given as goal

abbrev pub invariant-loop-node : goal.invariant-loop-node
invariant-loop-node l = 0 < l.size

abbrev pub decreases-loop-node : goal.decreases-loop-node
decreases-loop-node l = l.limit - l.size
