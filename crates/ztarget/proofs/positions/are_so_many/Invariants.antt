use Rattle.std.proofs.Common.{◌≡◌, ◌==◌, length, drop}
use Rattle.zplan.specs.Ranges.{positions}
use Rattle.ztarget.proofs.positions.are_so_many.Given as goal

abbrev pub invariant-loop-range : goal.invariant-loop-range
invariant-loop-range l = (l.left == length (positions (drop l.range-index l.ranges))) ≡ (l.fn.number == length (positions l.ranges))
