use Rattle.std.proofs.Common.{◌≡◌, ◌++◌, map}
use Rattle.zknow.specs.Tables.FactRefs.{fact_of}
use Rattle.zknow.specs.Tables.Sections.{section, number_pairs}
use Rattle.zknow.proofs.tables.facts.put_all_numbered.Given as goal

abbrev pub invariant-loop-key : goal.invariant-loop-key
invariant-loop-key g l = map fact_of l.out.items ++ section number_pairs (λ e x. g.T.Numbered.fact e x.0 x.1) l.key-iterator ≡ map fact_of l.fn.out.items ++ section number_pairs (λ e x. g.T.Numbered.fact e x.0 x.1) l.table
