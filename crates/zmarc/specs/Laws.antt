-- Laws of the definitions, in the terms of the standards.
use Rattle.std.specs.Prelude.{◌≡◌, ◌≢◌, ℕ, ◌+◌, ◌^◌, ◌≤◌, ◌<◌, true, false, Some, length, map, List, [], ◌∷◌, ◌++◌, All, find}
use Rattle.std.specs.Char.{IsScalar}
use Rattle.std.specs.List.{flat_map}
use Rattle.std.specs.Str.{encode_utf8_all, byte}
use Rattle.unicode_normalization.specs.Forms.{nfc}
use Rattle.zmarc.specs.declared.charset.Charset.{Charset}
use Rattle.zmarc.specs.declared.charset.Charset.TheVariants.{Utf8, Latin1}
use Rattle.zmarc.specs.declared.marc8.Mode.TheVariants.{Plain}
use Rattle.zmarc.specs.declared.marc8.Step.TheVariants.{Mark, Letter}
use Rattle.zmarc.specs.Shown.{IsSafe}
use Rattle.zmarc.specs.Charsets.{text}
use Rattle.zmarc.specs.Marc8.{meaning, marc8}
use Rattle.zmarc.specs.declared.format.Format.{Format}
use Rattle.zmarc.specs.declared.format.Reading.{Reading}
use Rattle.zmarc.specs.Briefs.{title_tag, brief, charset, read_in}
use Rattle.zmarc.specs.Lines.{subfield_text, data_text, field_line, field_lines}
use Rattle.zmarc.specs.Records.{is_record, Field, fields, has_tag, entry_count, lost_count}
use Rattle.zmarc.specs.Subfields.{Subfield, subfields}
use Rattle.zmarc.specs.Written.{leader, record_of, AreWritable, TellsLength}
use Rattle.zmarc.specs.Years.{year}

-- ---- what is shown

-- a printable octet of ASCII: hexadecimal 20 to 7E
abbrev pub IsPrintable : ℕ → Type 0
IsPrintable x = (0x20 ≤ x) × (x < 0x7F)

-- what holds of texts of MARC records as they are shown
pub record TextLaws : Type 0 where
  -- of characters in UTF-8 their composed form is shown as it stands, where it is safe
  pub stands : (cs : List ℕ) → All IsScalar cs → All IsSafe (nfc cs)
      → text Utf8 (encode_utf8_all cs) ≡ encode_utf8_all (nfc cs)
  -- so is printable ASCII, whatever the set is
  pub ascii_stands : (set : Charset) (octets : List ℕ) → All IsPrintable octets → text set octets ≡ octets
  -- octets of ISO 8859-1 are the numbers of their characters: their composed form is shown, where both are safe
  pub latin1_stands : (octets : List ℕ) → All IsSafe octets → All IsSafe (nfc octets)
      → text Latin1 octets ≡ encode_utf8_all (nfc octets)
  -- a record is read in the set that is known from elsewhere, whatever it says itself
  pub known_set : (format : Format) (set : Charset) (octets : List ℕ) → charset (read_in format (Some set)) octets ≡ set
  -- in MARC-8 a mark stands before its letter, and goes behind it
  pub mark_behind : (x y m c : ℕ) (octets : List ℕ) → meaning Plain x ≡ Mark m → meaning Plain y ≡ Letter c Plain
      → marc8 (x ∷ y ∷ octets) ≡ c ∷ m ∷ marc8 octets
  -- of what stands in another set there is one U+FFFD
  pub foreign : (set : ℕ) (there octets : List ℕ) → set ≢ 0x42 → All (λ x. x ≢ 0x1B) there
      → marc8 (0x1B ∷ 0x28 ∷ set ∷ there ++ 0x1B ∷ 0x28 ∷ 0x42 ∷ octets) ≡ 0xFFFD ∷ marc8 octets

-- ---- subfields

-- the octets have no delimiter of subfields, hexadecimal 1F
abbrev pub NoDelimiter : List ℕ → Type 0
NoDelimiter octets = All (λ x. x ≢ 0x1F) octets

-- a subfield as a field has it
abbrev pub subfield_octets : Subfield → List ℕ
subfield_octets s = 0x1F ∷ s.code ∷ s.octets

-- the subfields of a field are those that it was made of
abbrev pub SubfieldLaw : Type 0
SubfieldLaw = (indicators : List ℕ) (made : List Subfield) → NoDelimiter indicators
    → All (λ s. NoDelimiter (s.code ∷ s.octets)) made → subfields (indicators ++ flat_map subfield_octets made) ≡ made

-- ---- records

-- each entry of the directory tells of a field, or is counted as lost
abbrev pub CountLaw : Type 0
CountLaw = (octets : List ℕ) → length (fields octets) + lost_count octets ≡ entry_count octets

-- of octets that are no record nothing is shown
abbrev pub NothingLaw : Type 0
NothingLaw = (reading : Reading) (octets : List ℕ) → is_record octets ≡ false → brief reading octets ≡ []

-- the octets of a field that begins with the title: indicators, the subfield $a, and other subfields
abbrev pub title_octets : List ℕ → List ℕ → List Subfield → List ℕ
title_octets indicators title made =
    indicators ++ flat_map subfield_octets (record { code = byte "a"; octets = title } ∷ made)

-- the line of a record begins with its title: with what stands in $a, where the first field of the title begins with
-- that, and it is printable ASCII and not empty
abbrev pub TitleLaw : Type 0
TitleLaw = (reading : Reading) (status coded : List ℕ) (fs : List Field) (f : Field) (indicators title : List ℕ)
    → (made : List Subfield) → AreWritable status coded fs → find (has_tag (title_tag reading.format)) fs ≡ Some f
    → f.octets ≡ title_octets indicators title made → NoDelimiter indicators
    → All (λ s. NoDelimiter (s.code ∷ s.octets)) made → All IsPrintable title → title ≢ []
    → (rest : List ℕ) × (brief reading (record_of status coded fs) ≡ title ++ rest)

-- whatever octets stand behind a record
pub record BehindLaws : Type 0 where
  -- it is a record, where they and it are few enough for one
  pub still_record : (status coded : List ℕ) (fs : List Field) (more : List ℕ) → AreWritable status coded fs
      → length (record_of status coded fs ++ more) < 2 ^ 32 → is_record (record_of status coded fs ++ more) ≡ true
  -- its fields stay the same
  pub same_fields : (status coded : List ℕ) (fs : List Field) (more : List ℕ) → AreWritable status coded fs
      → fields (record_of status coded fs ++ more) ≡ fs
  -- so does its year
  pub same_year : (format : Format) (status coded : List ℕ) (fs : List Field) (more : List ℕ)
      → AreWritable status coded fs
      → year format (record_of status coded fs ++ more) ≡ year format (record_of status coded fs)
  -- so does its line, where its leader tells its length, and they and it are few enough for a record
  pub same_line : (reading : Reading) (status coded : List ℕ) (fs : List Field) (more : List ℕ)
      → AreWritable status coded fs → TellsLength (record_of status coded fs)
      → length (record_of status coded fs ++ more) < 2 ^ 32
      → brief reading (record_of status coded fs ++ more) ≡ brief reading (record_of status coded fs)

-- ---- records line by line

-- the lines of a leader and of fields
abbrev pub written_lines : Charset → List ℕ → List Field → List (List ℕ)
written_lines set head fs = text set head ∷ map (field_line set) fs

-- what holds of the lines of a record, and of what stands behind a tag
pub record LinesLaws : Type 0 where
  -- the lines of a record are those of its leader and of the fields that it was written of, and no more
  pub of_record : (reading : Reading) (status coded : List ℕ) (fs : List Field) → AreWritable status coded fs
      → field_lines reading (record_of status coded fs)
      ≡ written_lines (charset reading (record_of status coded fs)) (leader status coded fs) fs
  -- of a field that was made of indicators and subfields these are shown, and no more
  pub of_field : (set : Charset) (indicators : List ℕ) (made : List Subfield) → NoDelimiter indicators
      → All (λ s. NoDelimiter (s.code ∷ s.octets)) made
      → data_text set (indicators ++ flat_map subfield_octets made)
      ≡ text set indicators ++ flat_map (subfield_text set) made
