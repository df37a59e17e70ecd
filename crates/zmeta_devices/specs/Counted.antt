-- What writing does to a writer whose failed calls are counted.
use Rattle.std.specs.Prelude.{◌≡◌, ℕ, List, Option, Bool, true, false, Result, Ok, Err, IfSome}
use Rattle.std.specs.Io.KnownBytes.{Appends}
use Rattle.zoom_devices.specs.Devices.{DeviceState, HasAppendedFront, HasFailed}
use Rattle.zmeta_devices.specs.declared.counted.Counted.{Counted}

-- the octets that the writer holds, if they are known, and the number of its failed calls
abbrev pub counted_state : {W : Type 0} → (W → Option (List ℕ)) → Counted W → DeviceState
counted_state contents d = record { octets = contents d.writer; failures = d.failures }

-- the whole text was written, or a front of it
abbrev pub WritePiecesResult : Option (List ℕ) → Option (List ℕ) → List ℕ → Bool → Type 0
WritePiecesResult old new text true = Appends old new text
WritePiecesResult old new text false = HasAppendedFront old new text

-- the text was written, if it is known; or a call failed
abbrev pub AfterShow : {E : Type 0} → DeviceState → DeviceState → Option (List ℕ) → Result (Unit {0}) E → Type 0
AfterShow old new text (Ok _) = IfSome text (Appends old.octets new.octets) × (new.failures ≡ old.failures)
AfterShow old new text (Err _) = HasFailed old.failures new.failures
