-- What a connection takes next from its octets: messages of at most 2,097,152 octets, one by one.
use Rattle.std.specs.Prelude.{◌≡◌, ℕ, ◌<◌, List, [], length}
use Rattle.zber.specs.declared.fault.FaultKind.{FaultKind}
use Rattle.zber.specs.declared.framer.TheConstants.{MESSAGE_LIMIT}
use Rattle.zber.specs.Elements.{Element}
use Rattle.zber.specs.Spelling.{HasFirstMessage}
use Rattle.zber.specs.Shown.{HasFault}
use Rattle.zber.specs.Unfinished.{IsUnfinished}
use Rattle.zber.specs.Laws.{AreMessages}
use Rattle.zapdu.specs.declared.apdu.Apdu.{Apdu}
use Rattle.zapdu.specs.declared.apdu.ApduError.{ApduError}
use Rattle.zapdu.specs.declared.apdu.ApduError.TheVariants as errors
use Rattle.zapdu.specs.Writes.{Writes, IsNoApdu, HasLargestFront}

-- What a Take finds: a connection that was stopped before; a message; or a message that is no APDU or is
-- malformed. Or it finds a fault of the framing; so many octets that are no whole message; or no octets.
pub data Input : Type 0 where
  AlreadyStopped : Input
  Message : Apdu → Input
  Foreign : ApduError → Input
  Fault : FaultKind → ℕ → Input
  Rest : ℕ → Input
  Nothing : Input

-- the element is no APDU, or is malformed, with this error
abbrev pub IsForeign : Element → ApduError → Type 0
IsForeign e errors.NotApdu = IsNoApdu e
IsForeign e (errors.Malformed kind at) = ((v : Apdu) → Writes v e → ⊥) × HasLargestFront kind at e
IsForeign e errors.Memory = ⊥

-- the element is read as this input
abbrev pub IsReadAs : Element → Input → Type 0
IsReadAs e (Message v) = Writes v e
IsReadAs e (Foreign error) = IsForeign e error
IsReadAs e _ = ⊥

-- the octets begin with a message that is read as this input
pub record HasMessage (xs : List ℕ) (input : Input) : Type 0 where
  pub element : Element
  pub rest : List ℕ
  pub begins : HasFirstMessage MESSAGE_LIMIT xs element rest
  pub read : IsReadAs element input

-- the octets are this input to a connection that was not stopped
abbrev pub AreInput : List ℕ → Input → Type 0
AreInput xs AlreadyStopped = ⊥
AreInput xs (Message v) = HasMessage xs (Message v)
AreInput xs (Foreign error) = HasMessage xs (Foreign error)
AreInput xs (Fault kind at) = HasFault MESSAGE_LIMIT xs kind at
AreInput xs (Rest n) = (0 < length xs) × (n ≡ length xs) × IsUnfinished MESSAGE_LIMIT xs
AreInput xs Nothing = xs ≡ []

-- these octets follow the first `k` messages of the stream
pub record IsBehind (stream : List ℕ) (k : ℕ) (rest : List ℕ) : Type 0 where
  pub messages : List Element
  pub gave : AreMessages MESSAGE_LIMIT stream messages rest
  pub count : length messages ≡ k
