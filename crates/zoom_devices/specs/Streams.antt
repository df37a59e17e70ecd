-- What one read or write of a stream leaves, even if it was interrupted and repeated.
use Rattle.std.specs.Prelude.{ℕ, ◌<◌, List, length, Option, None, Some, Result, Ok, Err}
use Rattle.std.specs.Io.{ReadsAtMost, WritesAtMost}
use Rattle.std.specs.Io.KnownBytes.{ReadConsumes, WriteAppends}

-- The result of a call, without the reason of a failure.
abbrev pub result_of : Option ℕ → Result ℕ (Unit {0})
result_of (Some n) = Ok n
result_of None = Err tt

-- A number of octets was read into the front of the piece, or the read failed and read none.
pub record AfterReadAgain (old new : Option (List ℕ)) (count : Option ℕ) (piece : List ℕ) : Type 0 where
  pub bound : ReadsAtMost (result_of count) piece
  pub octets : ReadConsumes old new (result_of count) piece

-- A write takes at least one octet of a piece that is not empty.
abbrev pub HasWrittenSome : Option ℕ → List ℕ → Type 0
HasWrittenSome None piece = Unit {0}
HasWrittenSome (Some n) piece = 0 < length piece → 0 < n

-- A number of octets of the piece was written, or the write failed and wrote none.
pub record AfterWriteAgain (old new : Option (List ℕ)) (count : Option ℕ) (piece : List ℕ) : Type 0 where
  pub bound : WritesAtMost (result_of count) piece
  pub some : HasWrittenSome count piece
  pub octets : WriteAppends old new (result_of count) piece
