-- Octets that wait to be sent, by connection.
use Rattle.std.specs.Prelude.{◌≡◌, ℕ, List, [], length, slice_get, Option, None, Some, Vec}
use Rattle.std.specs.Global.{Global}

-- the octets of a buffer, if there is one
abbrev pub octets_in : Option (Vec ℕ Global) → List ℕ
octets_in None = []
octets_in (Some v) = v.items

-- so many buffers, in which nothing waits
pub record AreEmpty (count : ℕ) (buffers : List (Vec ℕ Global)) : Type 0 where
  pub size : length buffers ≡ count
  pub none : (c : ℕ) → octets_in (slice_get buffers c) ≡ []
