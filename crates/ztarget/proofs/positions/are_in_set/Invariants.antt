use Rattle.std.proofs.Common.{◌≡◌, drop}
use Rattle.ztarget.specs.Positions.{are_in_set}
use Rattle.ztarget.proofs.positions.are_in_set.Given as goal

abbrev pub invariant-loop-range : goal.invariant-loop-range
invariant-loop-range l = are_in_set l.count (drop l.range-index l.ranges) ≡ are_in_set l.count l.ranges
