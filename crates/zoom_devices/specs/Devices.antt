-- What reading and writing do to a device.
use Rattle.std.specs.Prelude.{◌≡◌, ◌⊎◌, ℕ, ◌+◌, ◌-◌, ◌^◌, min, List, ◌++◌, Option, Result, Ok, Err}
use Rattle.std.specs.Io.KnownBytes.{Keeps, Appends, ReadConsumes, WriteAppends}

-- The octets that a source has left or a sink holds, if they are known, and the number of failed calls.
pub record DeviceState : Type 0 where
  pub octets : Option (List ℕ)
  pub failures : ℕ

-- The largest count of failures.
abbrev pub most_failures : ℕ
most_failures = 2 ^ 64 - 1

-- One more, up to the largest count.
abbrev pub next_count : ℕ → ℕ
next_count n = min (n + 1) most_failures

-- A failed call is counted, and no other.
abbrev pub IsCounted : {A E : Type 0} → ℕ → ℕ → Result A E → Type 0
IsCounted old new (Ok _) = new ≡ old
IsCounted old new (Err _) = new ≡ next_count old

-- A read consumes the octets it gives, and gives none only at the end or without room; a failed read is counted.
pub record AfterRead {E : Type 0} (old new : DeviceState) (result : Result ℕ E) (piece : List ℕ) : Type 0 where
  pub octets : ReadConsumes old.octets new.octets result piece
  pub count : IsCounted old.failures new.failures result

-- A write appends the octets it takes; a failed write is counted.
pub record AfterWrite {E : Type 0} (old new : DeviceState) (result : Result ℕ E) (piece : List ℕ) : Type 0 where
  pub octets : WriteAppends old.octets new.octets result piece
  pub count : IsCounted old.failures new.failures result

-- The count rose by n, or is the largest count.
abbrev pub HasRisen : ℕ → ℕ → ℕ → Type 0
HasRisen n old new = (new ≡ old + n) ⊎ (new ≡ most_failures)

-- The count rose by one failure, or is the largest count.
abbrev pub HasFailed : ℕ → ℕ → Type 0
HasFailed old new = HasRisen 1 old new

-- The count of failures is unchanged.
abbrev pub HasNoFailure : DeviceState → DeviceState → Type 0
HasNoFailure old new = new.failures ≡ old.failures

-- A front of these octets was appended, if the octets of the device are known.
pub record HasAppendedFront (old new : Option (List ℕ)) (octets : List ℕ) : Type 0 where
  pub front : List ℕ
  pub rest : List ℕ
  pub cut : octets ≡ front ++ rest
  pub written : Appends old new front

-- All the octets were written, or the device failed after a front of them.
abbrev pub AfterWriteAll : {E : Type 0} → DeviceState → DeviceState → List ℕ → Result (Unit {0}) E → Type 0
AfterWriteAll old new octets (Ok _) = Appends old.octets new.octets octets × (new.failures ≡ old.failures)
AfterWriteAll old new octets (Err _) =
    HasAppendedFront old.octets new.octets octets × HasFailed old.failures new.failures

-- Nothing was read or written, and no call failed.
pub record IsUntouched (old new : DeviceState) : Type 0 where
  pub octets : Keeps old.octets new.octets
  pub failures : new.failures ≡ old.failures
