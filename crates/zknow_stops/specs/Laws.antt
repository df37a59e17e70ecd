-- The words are printable ASCII.
use Rattle.std.specs.Prelude.{ℕ, ◌≤◌, ◌<◌, All}
use Rattle.zknow_stops.specs.declared.detail.Detail.{Detail}
use Rattle.zknow_stops.specs.Details.{detail_words}

-- a printable octet of ASCII: hexadecimal 20 to 7E
abbrev pub IsPrintable : ℕ → Type 0
IsPrintable x = (0x20 ≤ x) × (x < 0x7F)

-- whatever the detail is
abbrev pub WordsLaw : Type 0
WordsLaw = (d : Detail) → All IsPrintable (detail_words d)
