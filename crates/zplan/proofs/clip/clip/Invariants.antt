use Rattle.std.proofs.Common.{◌≡◌, ◌++◌, drop}
use Rattle.std.specs.Prelude.{map}
use Rattle.zplan.specs.Ranges.{clip, span_of}
use Rattle.zplan.proofs.clip.clip.Given as goal

abbrev pub invariant-loop-i : goal.invariant-loop-i
invariant-loop-i l = l.ranges.items ++ clip l.count (map span_of (drop l.i l.wanted)) ≡ clip l.count (map span_of l.wanted)
