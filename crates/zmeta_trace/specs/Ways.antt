-- The octets of one way of a connection, as they are cut into messages.
use Rattle.std.specs.Prelude.{◌≡◌, ℕ, Bool, true, false, List, [], ◌∷◌, Option, Some, None}
use Rattle.zber.specs.declared.framer.TheConstants.{MESSAGE_LIMIT}
use Rattle.zber.specs.Stream.{Stream}

-- what is left of a way, whose fault was shown or not
abbrev pub left_of : Bool → List ℕ → Option (List ℕ)
left_of true octets = None
left_of false octets = Some octets

-- octets that are left were looked at
abbrev pub IsLookedAt : List ℕ → Bool → Type 0
IsLookedAt [] asked = Unit {0}
IsLookedAt (x ∷ xs) asked = asked ≡ true

-- the stream of a way whose octets show no fault
pub record IsOpen (s : Stream) : Type 0 where
  pub limited : s.limit ≡ MESSAGE_LIMIT
  pub sound : s.fault ≡ None
  pub asked : IsLookedAt s.octets s.asked

-- the same, unless a fault was shown
abbrev pub IsOpenUnless : Bool → Stream → Type 0
IsOpenUnless true s = Unit {0}
IsOpenUnless false s = IsOpen s
