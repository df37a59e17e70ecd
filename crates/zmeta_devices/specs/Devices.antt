-- The streams and files that commands read and write, before and after a call.
use Rattle.std.specs.Prelude.{◌≡◌, ◌⊎◌, ℕ, ◌<◌, List, ◌++◌, Option, is_some, Bool, true, false, if◌then◌else◌, Result, Ok, Err, MatchResult}
use Rattle.std.specs.Prelude.{IfSome, codes, nat_lt}
use Rattle.std.specs.Io.KnownBytes.{Keeps, Appends}
use Rattle.zoom_devices.specs.Devices.{HasAppendedFront, HasFailed}
use Rattle.zmeta_devices.specs.Counted.{counted_state}
use Rattle.zmeta_devices.specs.Faults.{fault_text, end_status}
use Rattle.zmeta_devices.specs.Explained.{words_line}
use Rattle.zmeta_devices.specs.declared.fault.Fault.{Fault}
use Rattle.zmeta_devices.specs.declared.fault.Fault.TheVariants.{Read, Write}
use Rattle.zmeta_devices.specs.declared.fault.Status.{Status}
use Rattle.zmeta_devices.specs.declared.input.Input.{Input}
use Rattle.zmeta_devices.specs.declared.output.Output.{Output}

-- a stream that is written: the octets written, if known; its path; how many calls of it failed; and whether faults are
-- told in words, too
pub record Device : Type 0 where
  pub known : Option (List ℕ)
  pub path : List ℕ
  pub failures : ℕ
  pub explains : Bool

-- a stream that is read: its octets left, if known; its path; and whether a call of it failed
pub record InputDevice : Type 0 where
  pub known : Option (List ℕ)
  pub path : List ℕ
  pub has_failed : Bool

-- a stream that is read, by what its reader has left
abbrev pub input_device : {R : Type 0} → (R → Option (List ℕ)) → Input R → InputDevice
input_device remaining s = record { known = remaining s.reader; path = s.path.now; has_failed = s.has_failed }

-- a stream that is written, by what its writer holds
abbrev pub output_device : {W : Type 0} → (W → Option (List ℕ)) → Output W → Device
output_device contents s =
    let state = counted_state contents s.writer in
    record { known = state.octets; path = s.path.now; failures = state.failures; explains = is_some s.words }

-- a call of the stream failed, now or before
abbrev pub has_broken : Device → Bool
has_broken s = nat_lt 0 s.failures

-- the streams that a command writes: standard output and standard error, or others in their place
pub record Outputs : Type 0 where
  pub output : Device
  pub errors : Device

-- the streams of a command that also reads one
pub record Streams : Type 0 where
  pub input : InputDevice
  pub output : Device
  pub errors : Device

-- the stream, that tells faults in words if it did or that is wanted
abbrev pub explaining : Bool → Device → Device
explaining wanted s = record s { explains = if wanted then true else s.explains }

-- the streams, of which standard error tells faults in words if it did or that is wanted
abbrev pub explaining_streams : Bool → Streams → Streams
explaining_streams wanted s = record s { errors = explaining wanted s.errors }

-- those of the streams that are written
abbrev pub written : Streams → Outputs
written s = record { output = s.output; errors = s.errors }

-- two streams that are written, by what their writers hold
abbrev pub outputs
    : {W E : Type 0} → (W → Option (List ℕ)) → (E → Option (List ℕ)) → Output W → Output E → Outputs
outputs contents reported output errors =
    record { output = output_device contents output; errors = output_device reported errors }

-- a stream that is read and two that are written, by what the reader has left and the writers hold
abbrev pub streams
    : {R W E : Type 0} → (R → Option (List ℕ)) → (W → Option (List ℕ)) → (E → Option (List ℕ))
    → Input R → Output W → Output E → Streams
streams remaining contents reported input output errors = record {
  input = input_device remaining input;
  output = output_device contents output;
  errors = output_device reported errors;
}

-- nothing was written, and no call failed
pub record IsUnchanged (old new : Device) : Type 0 where
  pub kept : Keeps old.known new.known
  pub path : new.path ≡ old.path
  pub sound : new.failures ≡ old.failures
  pub explains : new.explains ≡ old.explains

-- nothing was written to either stream
abbrev pub AreUnwritten : Outputs → Outputs → Type 0
AreUnwritten before after = IsUnchanged before.output after.output × (after.errors ≡ before.errors)

-- the whole text was written, and no call failed
pub record HasGained (old new : Device) (text : List ℕ) : Type 0 where
  pub written : Appends old.known new.known text
  pub path : new.path ≡ old.path
  pub sound : new.failures ≡ old.failures
  pub explains : new.explains ≡ old.explains

-- a call of the stream failed after a front of the text was written
pub record HasStopped (old new : Device) (text : List ℕ) : Type 0 where
  pub written : HasAppendedFront old.known new.known text
  pub path : new.path ≡ old.path
  pub failed : HasFailed old.failures new.failures
  pub explains : new.explains ≡ old.explains

-- the fault names the stream that failed after a front of the text was written
abbrev pub PutFailure : Device → Device → List ℕ → Fault → Type 0
PutFailure old new text (Write failed) = (failed.now ≡ old.path) × HasStopped old new text
PutFailure old new text _ = ⊥

-- the whole text was written, or a front of it if the stream failed
abbrev pub PutResult : Device → Device → List ℕ → Result (Unit {0}) Fault → Type 0
PutResult old new text result = MatchResult result (λ _. HasGained old new text) (PutFailure old new text)

-- a call of the stream failed
pub record IsBroken (old new : Device) : Type 0 where
  pub path : new.path ≡ old.path
  pub failed : HasFailed old.failures new.failures
  pub explains : new.explains ≡ old.explains

-- a text, if it is known, was written and no call failed; or the fault names the stream, and a call of it failed
abbrev pub PutKnownResult : Device → Device → Option (List ℕ) → Result (Unit {0}) Fault → Type 0
PutKnownResult old new text (Ok _) =
    IfSome text (Appends old.known new.known) × (new.path ≡ old.path) × (new.failures ≡ old.failures)
    × (new.explains ≡ old.explains)
PutKnownResult old new text (Err (Write failed)) = (failed.now ≡ old.path) × IsBroken old new
PutKnownResult old new text (Err _) = ⊥

-- the line that reports a fault
abbrev pub fault_line : Fault → List ℕ
fault_line f = codes "zmeta: " ++ fault_text f ++ codes "\n"

-- what is told of a fault: its line; where faults are told in words, the line of these too, if memory was found for it
abbrev pub IsFaultText : Bool → Fault → List ℕ → Type 0
IsFaultText explains f text =
    (text ≡ fault_line f) ⊎ ((explains ≡ true) × (text ≡ fault_line f ++ words_line f))

-- a fault was told, or a call of the stream failed
abbrev pub AfterTell : Device → Device → Fault → Type 0
AfterTell old new f =
    IsBroken old new ⊎ ((text : List ℕ) × IsFaultText old.explains f text × HasGained old new text)

-- whether the line of a fault was written; if not, a call of the stream failed
abbrev pub ShowFaultResult : Device → Device → Fault → Bool → Type 0
ShowFaultResult old new f true = HasGained old new (fault_line f)
ShowFaultResult old new f false = IsBroken old new

-- words for a fault were written, where faults are told so and memory was found; nothing else, unless a call failed
abbrev pub AfterWords : Device → Device → Fault → Type 0
AfterWords old new f =
    IsBroken old new ⊎ IsUnchanged old new ⊎ ((old.explains ≡ true) × HasGained old new (words_line f))

-- the lines were written, or a front of them before a call of the stream failed
abbrev pub AfterTellLines : Device → Device → List ℕ → Type 0
AfterTellLines old new lines = HasStopped old new lines ⊎ HasGained old new lines

-- the fault that stopped a command was reported, or nothing if there was none
abbrev pub AfterReport : {A : Type 0} → Device → Device → Result A Fault → Type 0
AfterReport old new (Ok _) = new ≡ old
AfterReport old new (Err f) = AfterTell old new f

-- standard error and the status after a command with this result: a fault is reported, and a failure of standard
-- error makes the status `Refused`, unless it is `Memory`
abbrev pub AfterEnd : Result Status Fault → Device → Device → Status → Type 0
AfterEnd result old new status = AfterReport old new result × (status ≡ end_status (has_broken new) result)

-- the stream that a fault names has failed: the one read, or the one written
abbrev pub IsOfStream : {A : Type 0} → InputDevice → Device → Result A Fault → Type 0
IsOfStream input output (Err (Read failed)) = (failed.now ≡ input.path) × (input.has_failed ≡ true)
IsOfStream input output (Err (Write failed)) = (failed.now ≡ output.path) × (0 < output.failures)
IsOfStream input output _ = Unit {0}
