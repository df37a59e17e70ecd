-- Facts whose records and diagnostics are borrowed.
use Rattle.zknow.specs.declared.fact.Fact.{Fact}
use Rattle.zknow.specs.declared.fact.Fact.TheVariants.{Count, Failed, Seen, Diag}
use Rattle.zknow.specs.declared.tables.fact_ref.FactRef.{FactRef}
use Rattle.zknow.specs.declared.tables.fact_ref.FactRef.TheVariants as refs

-- the fact of a reference
abbrev pub fact_of : FactRef → Fact
fact_of (refs.Count t s n) = Count t s n
fact_of (refs.Failed t s) = Failed t s
fact_of (refs.Seen t s p r) = Seen t s p r.now
fact_of (refs.Diag t s p d) = Diag t s p d.now
