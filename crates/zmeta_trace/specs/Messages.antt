-- The lines of messages, as they are appended.
use Rattle.std.specs.Prelude.{◌≡◌, ℕ, Bool, true, false, List, ◌++◌, Result}
use Rattle.zber.specs.declared.fault.FaultKind.{FaultKind}
use Rattle.zber.specs.declared.framer.TheConstants.{MESSAGE_LIMIT}
use Rattle.zber.specs.Elements.{Element}
use Rattle.zber.specs.Shown.{HasFault}
use Rattle.zber.specs.Spelling.{HasFirstMessage}
use Rattle.zber.specs.Stream.{Stream}
use Rattle.zber.specs.Unfinished.{IsUnfinished}
use Rattle.zapdu.specs.declared.apdu.Apdu.{Apdu}
use Rattle.zapdu.specs.declared.apdu.ApduError.{ApduError}
use Rattle.zmeta_trace.specs.Dialogue.{IsDecodedAs, message_text, fault_text, AreMessages}
use Rattle.zmeta_trace.specs.Ways.{left_of, IsOpenUnless}

-- the lines of a message were appended
abbrev pub IsMessagePut : List ℕ → Element → List ℕ → List ℕ → Type 0
IsMessagePut place e old new =
    (decoded : Result Apdu ApduError) × IsDecodedAs e decoded × (new ≡ old ++ (place ++ message_text decoded))

-- the first message was taken, and its lines were appended
abbrev pub IsMessageShown : List ℕ → Stream → Stream → List ℕ → List ℕ → Type 0
IsMessageShown place s t old new =
    (e : Element) × HasFirstMessage MESSAGE_LIMIT s.octets e t.octets × IsMessagePut place e old new
    × (t ≡ record s { octets = t.octets })

-- no message begins the octets yet; or they show a fault, and its line was appended
abbrev pub IsWayEnd : List ℕ → Stream → Stream → Bool → List ℕ → List ℕ → Type 0
IsWayEnd place s t false old new =
    IsUnfinished MESSAGE_LIMIT s.octets × (new ≡ old) × (t ≡ record s { asked = true })
IsWayEnd place s t true old new =
    (kind : FaultKind) × (at : ℕ) × HasFault MESSAGE_LIMIT s.octets kind at
    × (new ≡ old ++ (place ++ fault_text kind at))

-- whether there was a message, and whether a fault was shown
abbrev pub NextResult : List ℕ → Stream → Stream → Bool → List ℕ → List ℕ → Bool → Type 0
NextResult place s t over old new true = IsMessageShown place s t old new × (over ≡ false)
NextResult place s t over old new false = IsWayEnd place s t over old new

-- the lines of the octets were appended
pub record AreAllShown (place : List ℕ) (octets : List ℕ) (t : Stream) (over : Bool) (old new : List ℕ) : Type 0 where
  pub text : List ℕ
  pub lines : AreMessages place octets text (left_of over t.octets)
  pub appended : new ≡ old ++ text
  pub stands : IsOpenUnless over t
