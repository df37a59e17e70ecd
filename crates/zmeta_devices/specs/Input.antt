-- What reads leave of a stream.
use Rattle.std.specs.Prelude.{◌≡◌, ℕ, List, take, Option, Some, None}
use Rattle.std.specs.Io.KnownBytes.{Consumes, IsAtEnd}

-- some octets were taken from the front
abbrev pub HasLostFront : Option (List ℕ) → Option (List ℕ) → Type 0
HasLostFront old new = (front : List ℕ) × Consumes old new front

-- so many octets of the piece were taken from the front, none only at the end; or the read failed, and it is not known
-- what is left
abbrev pub ReadPieceResult : Option (List ℕ) → Option (List ℕ) → List ℕ → Option ℕ → Type 0
ReadPieceResult old new piece (Some count) = Consumes old new (take count piece) × (count ≡ 0 → IsAtEnd new)
ReadPieceResult old new piece None = old ≡ None
