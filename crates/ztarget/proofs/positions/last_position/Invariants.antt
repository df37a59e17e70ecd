use Rattle.std.proofs.Common.{◌≡◌, ◌-◌, true, drop, get_or}
use Rattle.ztarget.specs.Positions.{are_in_set}
use Rattle.zplan.specs.Ranges.{positions}
use Rattle.ztarget.proofs.positions.last_position.Given as goal

abbrev pub invariant-loop-range : goal.invariant-loop-range
invariant-loop-range l = record {
  last : get_or (positions (drop l.range-index l.ranges)) l.left 0 ≡ get_or (positions l.ranges) (l.fn.number - 1) 0;
  within : are_in_set l.count (drop l.range-index l.ranges) ≡ true;
}
