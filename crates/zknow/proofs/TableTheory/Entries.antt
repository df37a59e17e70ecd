-- One value more at a key of a table.
use Rattle.std.proofs.Common.{◌≡◌, List, cond, Some}
use Rattle.std.specs.declared.cmp.Ordering.{Ordering}
use Rattle.std.specs.List.Sorted.{IsStrictlySortedBy}
use Rattle.std.specs.Map.{keys_of}
use Rattle.std.specs.BTreeMap.{is_at}
use Rattle.zknow.specs.Tables.Table.{value_at_key}

-- n is m with w at the key
pub record SetsAt {K J : Type 0} (cmp : K → K → Ordering) (m n : List (K × J)) (key : K) (w : J) : Type 0 where
  pub at : (q : K) → value_at_key cmp n q ≡ cond (is_at (cmp key) q) (Some w) (value_at_key cmp m q)
  pub ordered : IsStrictlySortedBy cmp (keys_of n)
