use Rattle.std.proofs.Common.{◌≡◌, map, take}
use Rattle.zorigin.specs.Sending.{sent_range}
use Rattle.zorigin.proofs.request.additional.Given as goal

abbrev pub invariant-loop-range : goal.invariant-loop-range
invariant-loop-range l = l.ranges.items ≡ map sent_range (take l.range-index l.others)
