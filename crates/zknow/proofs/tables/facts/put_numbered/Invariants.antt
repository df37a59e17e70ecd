use Rattle.std.proofs.Common.{◌≡◌, ◌++◌, map}
use Rattle.zknow.specs.Tables.FactRefs.{fact_of}
use Rattle.zknow.specs.Tables.Sections.{section}
use Rattle.zknow.proofs.tables.facts.put_numbered.Given as goal

abbrev pub invariant-loop-number : goal.invariant-loop-number
invariant-loop-number g l = map fact_of l.out.items ++ section (λ xs. xs) (g.T.Numbered.fact l.key) l.number-iterator ≡ map fact_of l.fn.out.items ++ section (λ xs. xs) (g.T.Numbered.fact l.key) l.values
