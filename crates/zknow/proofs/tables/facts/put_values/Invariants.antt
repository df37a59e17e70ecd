use Rattle.std.proofs.Common.{◌≡◌, ◌++◌, map, take}
use Rattle.zknow.specs.Tables.FactRefs.{fact_of}
use Rattle.zknow.proofs.tables.facts.put_values.Given as goal

abbrev pub invariant-loop-value : goal.invariant-loop-value
invariant-loop-value g l = map fact_of l.out.items ≡ map fact_of l.fn.out.items ++ map (λ x. g.T.Numbered.fact l.key l.number x) (take l.value-index l.values)
