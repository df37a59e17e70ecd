use Rattle.zknow.proofs.ListTheory.Places.{counts_are, counts_in_order, two_counts, records_are, records_in_order, conflict_is}
use Rattle.zknow.proofs.laws.place_laws.Goals as goal

pub returns : goal.returns
returns c = record {
  counts = λ t s facts. record { members = counts_are t s facts; once = counts_in_order t s facts; conflict = two_counts t s facts };
  records = λ t s p facts. record { members = records_are t s facts p; once = records_in_order t s facts p; conflict = conflict_is t s p facts };
}
