use Rattle.std.proofs.Common.{◌≡◌, ◌++◌, take}
use Rattle.std.specs.List.{flat_map}
use Rattle.zmeta_conversions.specs.Worlds.{next_range}
use Rattle.zmeta_conversions.proofs.wants.put_next_ranges.Given as goal

abbrev pub invariant-loop-range : goal.invariant-loop-range
invariant-loop-range l = l.out.items ≡ l.fn.out.items ++ flat_map next_range (take l.range-index l.ranges)
