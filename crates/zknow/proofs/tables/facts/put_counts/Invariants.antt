use Rattle.std.proofs.Common.{◌≡◌, ◌++◌, map, take}
use Rattle.zknow.specs.Tables.FactRefs.{fact_of}
use Rattle.zknow.specs.declared.fact.Fact.TheVariants.{Count}
use Rattle.zknow.proofs.tables.facts.put_counts.Given as goal

abbrev pub invariant-loop-count : goal.invariant-loop-count
invariant-loop-count l = map fact_of l.out.items ≡ map fact_of l.fn.out.items ++ map (λ n. Count l.key.target l.key.set n) (take l.count-index l.counts)
