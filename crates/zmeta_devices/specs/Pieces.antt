-- The result of one write.
use Rattle.std.specs.Prelude.{ℕ, List, [], take, Option, Some, None}
use Rattle.std.specs.Io.KnownBytes.{Appends}

-- this many octets of the text were written, or none
abbrev pub WritePieceResult : Option (List ℕ) → Option (List ℕ) → List ℕ → Option ℕ → Type 0
WritePieceResult old new text (Some count) = Appends old new (take count text)
WritePieceResult old new text None = Appends old new []
