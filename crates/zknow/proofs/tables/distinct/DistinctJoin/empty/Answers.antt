use Rattle.std.specs.List.Sorted.{IsStrictlySortedBy}
use Rattle.zknow.proofs.tables.distinct.DistinctJoin.empty.Goals as goal

pub invariant_of-result : goal.invariant_of-result
unfolding IsStrictlySortedBy
invariant_of-result g c = rw c.new.ensures.items (record { ordered = tt; each = tt })
