use Rattle.std.proofs.Common.{◌≡◌, ◌++◌, map}
use Rattle.zknow.specs.Tables.FactRefs.{fact_of}
use Rattle.zknow.specs.declared.fact.Fact.TheVariants.{Count}
use Rattle.zknow.specs.Tables.Sections.{section}
use Rattle.zknow.proofs.tables.facts.put_all_counts.Given as goal

abbrev pub invariant-loop-key : goal.invariant-loop-key
invariant-loop-key l = map fact_of l.out.items ++ section (λ xs. xs) (λ e n. Count e.target e.set n) l.key-iterator ≡ map fact_of l.fn.out.items ++ section (λ xs. xs) (λ e n. Count e.target e.set n) l.table
