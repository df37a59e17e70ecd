-- A record line by line: its leader, and each of its fields with all that stands in it.
use Rattle.std.specs.Prelude.{ℕ, Bool, ◌==◌, if◌then◌else◌, List, [], ◌∷◌, ◌++◌, codes, map, take, All}
use Rattle.std.specs.Fmt.{decimal}
use Rattle.std.specs.List.{flat_map, before_first}
use Rattle.std.specs.Str.{bytes_eq}
use Rattle.zmarc.specs.declared.charset.Charset.{Charset}
use Rattle.zmarc.specs.declared.format.Reading.{Reading}
use Rattle.zmarc.specs.Briefs.{charset}
use Rattle.zmarc.specs.Charsets.{text}
use Rattle.zmarc.specs.Records.{Field, fields, is_record, lost_count}
use Rattle.zmarc.specs.Shown.{IsSafeText}
use Rattle.zmarc.specs.Subfields.{Subfield, subfields, is_delimiter}

-- ---- fields

-- the tag of a control field, which has no indicators and no subfields: it begins with two zeros (MARC 21 and UNIMARC:
-- 001 to 009)
abbrev pub is_control : List ℕ → Bool
is_control tag = bytes_eq (take 2 tag) (codes "00")

-- the indicators: what stands before the first subfield, or all octets where there is none
abbrev pub indicators : List ℕ → List ℕ
indicators octets = before_first is_delimiter octets

-- a subfield, as in ` $a text`
abbrev pub subfield_text : Charset → Subfield → List ℕ
subfield_text set s = codes " $" ++ text set (s.code ∷ []) ++ codes " " ++ text set s.octets

-- the indicators, and behind them each subfield
abbrev pub data_text : Charset → List ℕ → List ℕ
data_text set octets = text set (indicators octets) ++ flat_map (subfield_text set) (subfields octets)

-- what stands behind a tag: of a control field its octets as they are
abbrev pub field_text : Charset → List ℕ → List ℕ → List ℕ
field_text set tag octets = if is_control tag then text set octets else data_text set octets

-- a field: its tag, a space, and what stands in it
abbrev pub field_line : Charset → Field → List ℕ
field_line set f = text set f.tag ++ codes " " ++ field_text set f.tag f.octets

-- ---- records

-- the leader, its 24 octets
abbrev pub leader_line : Charset → List ℕ → List ℕ
leader_line set octets = text set (take 24 octets)

-- how many entries of the directory tell of no field
abbrev pub lost_line : ℕ → List ℕ
lost_line count = codes "entries of the directory that tell of no field: " ++ decimal count

-- that, where there is any
abbrev pub lost_lines : ℕ → List (List ℕ)
lost_lines count = if count == 0 then [] else lost_line count ∷ []

-- the lines of a record in this set of characters: the leader, each field in the order of the directory, and how many
-- entries tell of none
abbrev pub lines_in : Charset → List ℕ → List (List ℕ)
lines_in set octets = leader_line set octets ∷ (map (field_line set) (fields octets) ++ lost_lines (lost_count octets))

-- the lines of a record: none, where the octets are no record
unfoldable pub field_lines : Reading → List ℕ → List (List ℕ)
field_lines reading octets = if is_record octets then lines_in (charset reading octets) octets else []

-- lines, each with its line feed
abbrev pub ended_lines : List (List ℕ) → List ℕ
ended_lines lines = flat_map (λ line. line ++ codes "\n") lines

-- lines that are safe to print on a terminal: no line feed is in any of them
pub record AreSafeLines (lines : List (List ℕ)) : Type 0 where
  pub each : All IsSafeText lines
