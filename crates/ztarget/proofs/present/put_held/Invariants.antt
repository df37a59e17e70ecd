use Rattle.std.proofs.Common.{◌≡◌, ◌++◌, true, drop, length}
use Rattle.std.specs.List.{All}
use Rattle.ztarget.specs.Keeping.{records_at_hits}
use Rattle.ztarget.specs.Levels.{IsShowableRecord}
use Rattle.ztarget.specs.Positions.{are_in_set, at_positions}
use Rattle.zplan.specs.Ranges.{positions}
use Rattle.ztarget.specs.Showing.{fitting_after}
use Rattle.ztarget.proofs.present.put_held.Given as goal

abbrev pub invariant-loop-range : goal.invariant-loop-range
invariant-loop-range l = record {
  held : l.records.items ++ fitting_after l.size l.used (records_at_hits l.size l.syntax l.databases (at_positions l.found (positions (drop l.range-index l.ranges))))
      ≡ l.fn.records.items ++ fitting_after l.size l.fn.used (records_at_hits l.size l.syntax l.databases (at_positions l.found (positions l.ranges)));
  within : are_in_set (length l.found) (drop l.range-index l.ranges) ≡ true;
  showable : All IsShowableRecord l.fn.records.items → All IsShowableRecord l.records.items;
}
