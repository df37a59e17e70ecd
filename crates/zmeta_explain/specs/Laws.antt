-- Words are printable ASCII.
use Rattle.std.specs.Prelude.{ℕ, ◌≤◌, ◌<◌, List, All}
use Rattle.zmeta_explain.specs.declared.mistakes.Mistake.{Mistake}
use Rattle.zmeta_explain.specs.declared.mistakes.Mistake.TheVariants.{Query, Records, Syntax, NotSaved, NotCanonical, Read, Write, NoQuestion, NoCatalogue, NotOid}
use Rattle.zmeta_explain.specs.declared.stops.Stopped.{Stopped}
use Rattle.zmeta_explain.specs.Lines.{line_words}
use Rattle.zmeta_explain.specs.Mistakes.{mistake_words}
use Rattle.zmeta_explain.specs.Stops.{stop_words}

-- a printable octet of ASCII: hexadecimal 20 to 7E
abbrev pub IsPrintable : ℕ → Type 0
IsPrintable x = (0x20 ≤ x) × (x < 0x7F)

abbrev pub IsOctet : ℕ → Type 0
IsOctet x = x < 256

-- the text of the mistake, if it has one, is octets: so is each that a program has
abbrev pub HasOctets : Mistake → Type 0
HasOctets (Query text kind at) = All IsOctet text.now
HasOctets (Records text) = All IsOctet text.now
HasOctets (Syntax text) = All IsOctet text.now
HasOctets (NotSaved path at) = All IsOctet path.now
HasOctets (NotCanonical path at) = All IsOctet path.now
HasOctets (Read path) = All IsOctet path.now
HasOctets (Write path) = All IsOctet path.now
HasOctets (NoQuestion name) = All IsOctet name.now
HasOctets (NoCatalogue name) = All IsOctet name.now
HasOctets (NotOid text) = All IsOctet text.now
HasOctets _ = Unit {0}

-- whatever the octets are
abbrev pub SafeLaw : Type 0
SafeLaw = (m : Mistake) → HasOctets m → All IsPrintable (mistake_words m)

-- name and address are octets
abbrev pub HasOctetNames : Stopped → Type 0
HasOctetNames s = All IsOctet s.name.now × All IsOctet s.address.now

-- whatever the octets are
abbrev pub SafeStopLaw : Type 0
SafeStopLaw = (s : Stopped) → HasOctetNames s → All IsPrintable (stop_words s)

-- whatever the octets of the file are
abbrev pub SafeLineLaw : Type 0
SafeLineLaw = (world : List ℕ) (number : ℕ) → All IsOctet world → All IsPrintable (line_words world number)
