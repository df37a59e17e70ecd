-- The elements of replies (Z39.50-2003, 4.1): each reply has one, and it can be encoded.
use Rattle.std.specs.Prelude.{◌≡◌, ℕ, ◌≤◌, Option, Some, None}
use Rattle.zber.specs.Elements.{Element, height}
use Rattle.zapdu.specs.declared.apdu.Apdu.{Apdu}
use Rattle.zapdu.specs.declared.productions.record.Record.{Record}
use Rattle.zapdu.specs.Productions.Records.{record_spelling}
use Rattle.zapdu.specs.Writes.{Writes, apdu_spelling}

-- there is an element, with at most k constructed elements within one another
abbrev pub HasLevels : ℕ → Option Element → Type 0
HasLevels k None = ⊥
HasLevels k (Some n) = height n ≤ k

-- a record has an element of at most 4 levels
abbrev pub IsShowableRecord : Record → Type 0
IsShowableRecord r = HasLevels 4 (record_spelling r)

-- The APDU has an element, which writes it, of at most 64 levels: an encoding takes no more.
pub record HasElement (apdu : Apdu) : Type 0 where
  pub element : Element
  pub built : apdu_spelling apdu ≡ Some element
  pub writes : Writes apdu element
  pub levels : height element ≤ 64
