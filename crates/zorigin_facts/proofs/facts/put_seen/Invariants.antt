use Rattle.std.proofs.Common.{◌≡◌, ◌++◌, take}
use Rattle.zorigin_facts.specs.Facts.{seen_from}
use Rattle.zorigin_facts.proofs.facts.put_seen.Given as goal

abbrev pub invariant-loop-index : goal.invariant-loop-index
invariant-loop-index l = l.out.items ≡ l.fn.out.items ++ seen_from l.target l.set l.first (take l.index l.records)
