-- The steps of `show`.
use Rattle.std.specs.Prelude.{◌≡◌, ◌⊎◌, ℕ, List, [], ◌++◌, Bool, true, false, Result, Ok, Err, MatchResult}
use Rattle.zber.specs.Elements.{Element}
use Rattle.zber.specs.Spelling.{HasFirstMessage}
use Rattle.zber.specs.Stream.{Stream}
use Rattle.zber.specs.Unfinished.{IsUnfinished}
use Rattle.zapdu.specs.declared.apdu.Apdu.{Apdu}
use Rattle.zapdu.specs.Writes.{Writes}
use Rattle.zapdu_lines.specs.Lines.{apdu_text}
use Rattle.zmeta_offline.specs.Show.{ShownText}
use Rattle.zber.specs.declared.framer.TheConstants.{MESSAGE_LIMIT}
use Rattle.zmeta_devices.specs.Devices.{Device, IsUnchanged, HasGained, PutFailure}
use Rattle.zmeta_devices.specs.declared.fault.Fault.{Fault}
use Rattle.zmeta_devices.specs.declared.fault.Fault.TheVariants.{Memory}

-- the next message was shown, there is none yet, or a fault ends the octets; nothing is known if no memory was
-- found
abbrev pub ShowNextResult : Stream → Stream → List ℕ → List ℕ → Result Bool Fault → Type 0
ShowNextResult s t old new (Ok true) =
    (e : Element) × (v : Apdu) × HasFirstMessage MESSAGE_LIMIT s.octets e t.octets × Writes v e
    × (new ≡ old ++ apdu_text v) × (t ≡ record s { octets = t.octets })
ShowNextResult s t old new (Ok false) =
    IsUnfinished MESSAGE_LIMIT s.octets × (new ≡ old) × (t ≡ record s { asked = true })
ShowNextResult s t old new (Err Memory) = Unit {0}
ShowNextResult s t old new (Err f) = ShownText s.octets [] (Err f) × (new ≡ old)

-- the octets were shown; nothing is known if no memory was found
abbrev pub ShowOctetsResult : List ℕ → List ℕ → List ℕ → Result (Unit {0}) Fault → Type 0
ShowOctetsResult xs old new (Err Memory) = Unit {0}
ShowOctetsResult xs old new result = (text : List ℕ) × ShownText xs text result × (new ≡ old ++ text)

-- the lines were written and the result is kept; or a front of them if the stream failed
abbrev pub PutLinesResult : List ℕ → Result (Unit {0}) Fault → Device → Device → Result (Unit {0}) Fault → Type 0
PutLinesResult lines given old new result =
    ((result ≡ given) × HasGained old new lines) ⊎ MatchResult result (λ _. ⊥) (PutFailure old new lines)

-- the lines were written before the result, and no line if no memory was found
abbrev pub PrintLinesResult : List ℕ → Result (Unit {0}) Fault → Device → Device → Result (Unit {0}) Fault → Type 0
PrintLinesResult lines (Err Memory) old new result = (result ≡ Err Memory) × IsUnchanged old new
PrintLinesResult lines given old new result = PutLinesResult lines given old new result
