use Rattle.std.proofs.Common.{◌≡◌, ◌++◌, map}
use Rattle.zknow.specs.Tables.FactRefs.{fact_of}
use Rattle.zknow.specs.declared.fact.Fact.TheVariants.{Failed}
use Rattle.zknow.specs.Tables.Sections.{section, marked}
use Rattle.zknow.proofs.tables.facts.put_all_failed.Given as goal

abbrev pub invariant-loop-key : goal.invariant-loop-key
invariant-loop-key l = map fact_of l.out.items ++ section marked (λ e u. Failed e.target e.set) l.key-iterator ≡ map fact_of l.fn.out.items ++ section marked (λ e u. Failed e.target e.set) l.table
