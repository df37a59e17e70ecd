-- The times at which connections are next to be looked at, by connection and by time.
use Rattle.std.specs.Prelude.{◌≡◌, ℕ, ◌≤◌, ◌↔◌, IsTrue, List, Option, Some, slice_get}
use Rattle.std.specs.declared.cmp.Ordering.{Ordering}
use Rattle.std.specs.Ordering.{nat_cmp, on, then_cmp}
use Rattle.std.specs.BTreeSet.{BTreeSet, contains}

-- an earlier time comes first, and of connections with one time the one with the lesser number
abbrev pub by_time : ℕ × ℕ → ℕ × ℕ → Ordering
by_time = then_cmp (on (λ p. p.0) nat_cmp) (on (λ p. p.1) nat_cmp)

-- the set has each time that a connection has, with that connection, and nothing else
abbrev pub IsInOrder : List (Option ℕ) → BTreeSet (ℕ × ℕ) → Type 0
IsInOrder times order =
    (c t : ℕ) → IsTrue (contains by_time order (t, c)) ↔ (slice_get times c ≡ Some (Some t))

-- some connection has this time
abbrev pub HasTime : List (Option ℕ) → ℕ → Type 0
HasTime times t = (c : ℕ) × (slice_get times c ≡ Some (Some t))

-- no connection has an earlier time
abbrev pub NoneBefore : List (Option ℕ) → ℕ → Type 0
NoneBefore times t = (c u : ℕ) → slice_get times c ≡ Some (Some u) → t ≤ u

-- the connection has a time, which has come
abbrev pub IsDueAt : List (Option ℕ) → ℕ → ℕ → Type 0
IsDueAt times now c = (t : ℕ) × (slice_get times c ≡ Some (Some t)) × (t ≤ now)

-- the connection's time is the least
abbrev pub IsLeastAt : List (Option ℕ) → ℕ → Type 0
IsLeastAt times c = (t : ℕ) → slice_get times c ≡ Some (Some t) → NoneBefore times t
