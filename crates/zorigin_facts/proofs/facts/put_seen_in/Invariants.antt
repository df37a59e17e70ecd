use Rattle.std.proofs.Common.{◌≡◌, ◌++◌, drop}
use Rattle.zplan.specs.Ranges.{positions}
use Rattle.zorigin_facts.specs.Facts.{seen_at}
use Rattle.zorigin_facts.proofs.facts.put_seen_in.Given as goal

abbrev pub invariant-loop-range : goal.invariant-loop-range
invariant-loop-range l =
    l.out.items ++ seen_at l.target l.set (positions (drop l.range-index l.ranges)) l.left
    ≡ l.fn.out.items ++ seen_at l.target l.set (positions l.ranges) l.fn.records
