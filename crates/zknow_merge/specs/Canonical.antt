-- Canonical elements with one identifier octet, as they stand in octets.
use Rattle.std.specs.Prelude.{◌≡◌, ◌⊎◌, ◌<◌, ℕ, List, [], ◌∷◌, ◌++◌, length, true}
use Rattle.zber.specs.Canonical.{size}
use Rattle.zber.specs.Oids.{is_oid, oid_octets}

-- an element with this identifier octet and these contents octets, with its length in the shortest form
unfoldable pub framed : ℕ → List ℕ → List ℕ
framed identifier contents = identifier ∷ (size (length contents) ++ contents)

-- the octets are the contents octets of an object identifier
abbrev pub IsOidOctets : List ℕ → Type 0
IsOidOctets octets = (arcs : List ℕ) × (is_oid arcs ≡ true) × (octets ≡ oid_octets arcs)

-- the octets are those of a number below 128, or of 109 and such a number
abbrev pub IsSyntaxEnd : List ℕ → Type 0
IsSyntaxEnd octets = (n : ℕ) × (n < 128) × ((octets ≡ n ∷ []) ⊎ (octets ≡ 109 ∷ n ∷ []))
