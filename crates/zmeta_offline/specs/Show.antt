-- What `show` prints for octets, and how it ends.
use Rattle.std.specs.Prelude.{◌≡◌, ℕ, ◌<◌, List, [], ◌++◌, length, Result, Ok, Err, IfSome}
use Rattle.zber.specs.declared.framer.TheConstants.{MESSAGE_LIMIT}
use Rattle.zber.specs.declared.fault.FaultKind.{FaultKind}
use Rattle.zber.specs.declared.fault.FaultKind.TheVariants as kinds
use Rattle.zber.specs.Elements.{Element}
use Rattle.zber.specs.Spelling.{HasFirstMessage}
use Rattle.zber.specs.Shown.{HasFault}
use Rattle.zber.specs.Unfinished.{IsUnfinished}
use Rattle.zapdu.specs.declared.apdu.Apdu.{Apdu}
use Rattle.zapdu.specs.declared.apdu.Kind.{Kind}
use Rattle.zapdu.specs.Writes.{Writes, IsNoApdu, HasLargestFront}
use Rattle.zmeta_offline.specs.Digits.{octets_of}
use Rattle.zapdu_lines.specs.Lines.{apdu_text}
use Rattle.zmeta_devices.specs.Faults.{as_done}
use Rattle.zmeta_devices.specs.Devices.{Device, Streams, IsUnchanged, HasGained, HasStopped, IsOfStream, AfterEnd}
use Rattle.zmeta_devices.specs.declared.fault.Fault.{Fault}
use Rattle.zmeta_devices.specs.declared.fault.Fault.TheVariants.{Read, Write, Hex, Frame, NotApdu, Malformed, Memory}
use Rattle.zmeta_devices.specs.declared.fault.Status.{Status}

-- the text of the APDUs at the front of the octets, and how the octets end: nothing left, or a fault
pub data ShownText : List ℕ → List ℕ → Result (Unit {0}) Fault → Type 0 where
  nothing_left : ShownText [] [] (Ok tt)
  apdu : {xs rest text : List ℕ} {e : Element} {end : Result (Unit {0}) Fault} (v : Apdu)
      → HasFirstMessage MESSAGE_LIMIT xs e rest → Writes v e → ShownText rest text end
      → ShownText xs (apdu_text v ++ text) end
  fault : {xs : List ℕ} {kind : FaultKind} {at : ℕ} → HasFault MESSAGE_LIMIT xs kind at
      → ShownText xs [] (Err (Frame kind at))
  unfinished : {xs : List ℕ}
      → 0 < length xs → IsUnfinished MESSAGE_LIMIT xs → ShownText xs [] (Err (Frame kinds.Truncated (length xs)))
  no_apdu : {xs rest : List ℕ} {e : Element} → HasFirstMessage MESSAGE_LIMIT xs e rest → IsNoApdu e
      → ShownText xs [] (Err NotApdu)
  malformed : {xs rest : List ℕ} {e : Element} {kind : Kind} {at : ℕ}
      → HasFirstMessage MESSAGE_LIMIT xs e rest → ((v : Apdu) → Writes v e → ⊥) → HasLargestFront kind at e
      → ShownText xs [] (Err (Malformed kind at))

-- octets have only one text and one end
abbrev pub OneShowing : Type 0
OneShowing = (xs s t : List ℕ) (f g : Result (Unit {0}) Fault) → ShownText xs s f → ShownText xs t g → (s ≡ t) × (f ≡ g)

-- the octets of the digits were shown
abbrev pub ShowDigitsResult : List ℕ → Device → Device → Result (Unit {0}) Fault → Type 0
ShowDigitsResult digits old new result =
    (xs text : List ℕ) × (octets_of digits ≡ Ok xs) × ShownText xs text result × HasGained old new text

-- the stream failed after a front of the text of the digits' octets was written
abbrev pub HasShownFront : List ℕ → Device → Device → Type 0
HasShownFront digits old new = (xs text : List ℕ) × (end : Result (Unit {0}) Fault) × (octets_of digits ≡ Ok xs)
    × ShownText xs text end × HasStopped old new text

-- the result of `show`, and the stream after it
abbrev pub ShowResult : List ℕ → Device → Device → Result (Unit {0}) Fault → Type 0
ShowResult digits old new (Err Hex) = ((xs : List ℕ) → octets_of digits ≡ Ok xs → ⊥) × IsUnchanged old new
ShowResult digits old new (Err (Read path)) = ⊥
ShowResult digits old new (Err (Write path)) = HasShownFront digits old new
ShowResult digits old new (Err Memory) = IsUnchanged old new
ShowResult digits old new result = ShowDigitsResult digits old new result

-- the streams and the status after `show`
abbrev pub AfterShow : Streams → Streams → Status → Type 0
AfterShow before after status = (result : Result (Unit {0}) Fault)
    × IfSome before.input.known (λ digits. ShowResult digits before.output after.output result)
    × (after.input.path ≡ before.input.path) × IsOfStream after.input after.output result
    × AfterEnd (as_done result) before.errors after.errors status
