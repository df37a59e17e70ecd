use Rattle.std.proofs.Common.{◌≡◌, map, take}
use Rattle.zknow.specs.Tables.FactRefs.{fact_of}
use Rattle.zknow.proofs.knowledge.Knowledge.facts.Given as goal

abbrev pub invariant-loop-fact : goal.invariant-loop-fact
invariant-loop-fact l = l.facts.items ≡ map fact_of (take l.fact-index l.fact-items)
