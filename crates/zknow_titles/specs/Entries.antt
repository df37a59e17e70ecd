-- What is shown of one record: a year, where it has one, and a text.
use Rattle.std.specs.Prelude.{ℕ, ◌==◌, ◌&&◌, ◌||◌, nat_le, Bool, true, false, if◌then◌else◌, Option, Some, None, unwrap_or}
use Rattle.std.specs.Prelude.{List, [], ◌∷◌, ◌++◌, codes, length, take, slice_index}
use Rattle.std.specs.Fmt.{decimal}
use Rattle.std.specs.Str.{bytes_eq}
use Rattle.zber.specs.Elements.{Element}
use Rattle.zber.specs.Canonical.{canonical}
use Rattle.zber.specs.Dotted.{dotted}
use Rattle.zber.specs.Segments.{is_string, string_octets}
use Rattle.zapdu.specs.declared.productions.diagnostic.DiagRec.{DiagRec}
use Rattle.zapdu.specs.declared.productions.external.Content.{Content}
use Rattle.zapdu.specs.declared.productions.external.Content.TheVariants.{Single, Aligned, Arbitrary}
use Rattle.zapdu.specs.declared.productions.external.External.{External}
use Rattle.zapdu.specs.declared.productions.record.RecordBody.{RecordBody}
use Rattle.zapdu.specs.declared.productions.record.RecordBody.TheVariants.{Retrieval, Surrogate, Fragment}
use Rattle.zapdu.specs.declared.productions.record.Record.{Record}
use Rattle.zmarc.specs.declared.charset.Charset.{Charset}
use Rattle.zmarc.specs.declared.charset.Charset.TheVariants.{Utf8}
use Rattle.zmarc.specs.declared.format.Format.{Format}
use Rattle.zmarc.specs.declared.format.Format.TheVariants.{Marc21, Unimarc}
use Rattle.zmarc.specs.declared.format.Reading.{Reading}
use Rattle.zmarc.specs.Charsets.{text}
use Rattle.zmarc.specs.Briefs.{brief, read_in}
use Rattle.zmarc.specs.Records.{is_record}
use Rattle.zmarc.specs.Years.{year}
use Rattle.zopac.specs.declared.opac.OpacRecord.{OpacRecord}
use Rattle.zopac.specs.Copies.{copy_lines}
use Rattle.zopac.specs.Opacs.{opac_meaning}
use Rattle.zknow_titles.specs.Diagnostics.{diag_words}
use Rattle.zknow_titles.specs.Sutrs.{sutrs_line}

-- the texts of an entry of the view for readers: the year, and the line
pub record EntryText : Type 0 where
  pub year : List ℕ
  pub line : List ℕ

-- what is shown of a record with this year and this text
abbrev pub texts : List ℕ → List ℕ → EntryText
texts year line = record { year = year; line = line }

-- a text without a year
abbrev pub plain : List ℕ → EntryText
plain line = texts [] line

-- ---- syntaxes (Z39.50-2003, Appendix REC)

-- the syntax UNIMARC: 1.2.840.10003.5.1
abbrev pub unimarc : List ℕ
unimarc = 1 ∷ 2 ∷ 840 ∷ 10003 ∷ 5 ∷ 1 ∷ []

-- the syntax SUTRS, plain text without structure: 1.2.840.10003.5.101
abbrev pub sutrs : List ℕ
sutrs = 1 ∷ 2 ∷ 840 ∷ 10003 ∷ 5 ∷ 101 ∷ []

-- the syntax XML: 1.2.840.10003.5.109.10
abbrev pub xml : List ℕ
xml = 1 ∷ 2 ∷ 840 ∷ 10003 ∷ 5 ∷ 109 ∷ 10 ∷ []

-- the syntax OPAC, a bibliographic record with its copies: 1.2.840.10003.5.102
abbrev pub opac : List ℕ
opac = 1 ∷ 2 ∷ 840 ∷ 10003 ∷ 5 ∷ 102 ∷ []

-- the formats of MARC: 1.2.840.10003.5.0 to 1.2.840.10003.5.99
abbrev pub is_marc : List ℕ → Bool
is_marc syntax =
    length syntax == 6 && bytes_eq (take 5 syntax) (1 ∷ 2 ∷ 840 ∷ 10003 ∷ 5 ∷ []) && nat_le (slice_index syntax 5) 99

-- how a syntax is named, and one that no object identifier names
abbrev pub syntax_text : Option (List ℕ) → List ℕ
syntax_text None = codes "record of no named syntax"
syntax_text (Some syntax) = codes "record of syntax " ++ dotted syntax

-- a count of octets behind a comma, as in `, 24 octets`
abbrev pub counted_octets : ℕ → List ℕ
counted_octets n = codes ", " ++ decimal n ++ codes " octets"

-- ---- records

-- a record in a syntax that is not read
abbrev pub other_entry : Option (List ℕ) → ℕ → EntryText
other_entry direct count = plain (syntax_text direct ++ counted_octets count)

-- the year of a record of MARC, nothing where it has none
abbrev pub year_text : Format → List ℕ → List ℕ
year_text format octets = text Utf8 (unwrap_or (year format octets) [])

-- the line of a record of MARC: where nothing is to be shown of it, that
abbrev pub titled : List ℕ → List ℕ → List ℕ
titled octets line = if length line == 0 then codes "no title" ++ counted_octets (length octets) else line

-- a record of MARC
abbrev pub marc_entry : Reading → List ℕ → EntryText
marc_entry reading octets =
    if is_record octets then texts (year_text reading.format octets) (titled octets (brief reading octets))
    else plain (codes "no record" ++ counted_octets (length octets))

-- a record of SUTRS
abbrev pub sutrs_entry : Option Charset → List ℕ → EntryText
sutrs_entry charset octets = plain (sutrs_line charset octets)

-- octets of a syntax; the character set of the target's records may be known
abbrev pub octets_entry : Option Charset → Option (List ℕ) → List ℕ → List ℕ → EntryText
octets_entry charset direct syntax octets =
    if bytes_eq syntax sutrs then sutrs_entry charset octets
    else if bytes_eq syntax xml then plain (codes "XML" ++ counted_octets (length octets))
    else if bytes_eq syntax unimarc then marc_entry (read_in Unimarc charset) octets
    else if is_marc syntax || is_record octets then marc_entry (read_in Marc21 charset) octets
    else other_entry direct (length octets)

-- an element of a syntax: text of SUTRS, or another
abbrev pub element_entry : Option Charset → Option (List ℕ) → List ℕ → Element → EntryText
element_entry charset direct syntax e =
    if bytes_eq syntax sutrs && is_string e then sutrs_entry charset (string_octets e)
    else other_entry direct (length (canonical e))

-- bits of a syntax
abbrev pub bits_entry : Option (List ℕ) → EntryText
bits_entry direct = plain (syntax_text direct ++ codes ", in bits")

-- a record in a syntax
abbrev pub content_entry : Option Charset → Option (List ℕ) → Content → EntryText
content_entry charset direct (Single e) = element_entry charset direct (unwrap_or direct []) e
content_entry charset direct (Aligned octets) = octets_entry charset direct (unwrap_or direct []) octets
content_entry charset direct (Arbitrary bits) = bits_entry direct

-- what stands in the place of a record
abbrev pub diag_entry : DiagRec → EntryText
diag_entry d = plain (codes "not shown: " ++ diag_words d)

-- a record by its content, a diagnostic in its place by its words, and a fragment as a part of a record
abbrev pub body_entry : Option Charset → RecordBody → EntryText
body_entry charset (Retrieval v) = content_entry charset v.direct v.content
body_entry charset (Surrogate d) = diag_entry d
body_entry charset (Fragment e) = plain (codes "a part of a record")

-- ---- records with copies

-- the record with its copies that a record of the syntax OPAC is, if it is one
abbrev pub opac_in_content : List ℕ → Content → Option OpacRecord
opac_in_content syntax (Single e) = if bytes_eq syntax opac then opac_meaning e else None
opac_in_content syntax (Aligned octets) = None
opac_in_content syntax (Arbitrary bits) = None

-- the same of what the target sent
abbrev pub opac_in : RecordBody → Option OpacRecord
opac_in (Retrieval v) = opac_in_content (unwrap_or v.direct []) v.content
opac_in (Surrogate d) = None
opac_in (Fragment e) = None

-- the record with its copies that a record is, if it is one
abbrev pub opac_of : Record → Option OpacRecord
opac_of r = opac_in r.body

-- a bibliographic record by its content
abbrev pub bibliographic_entry : Option Charset → Option External → EntryText
bibliographic_entry charset None = plain (codes "copies of a record that is not there")
bibliographic_entry charset (Some v) = content_entry charset v.direct v.content

-- a record, or what stands in its place: of a record with its copies the bibliographic record
abbrev pub entry_with : Option Charset → Record → Option OpacRecord → EntryText
entry_with charset r None = body_entry charset r.body
entry_with charset r (Some o) = bibliographic_entry charset o.bibliographic

-- a record, or what stands in its place
abbrev pub entry : Option Charset → Record → EntryText
entry charset r = entry_with charset r (opac_of r)

-- the lines of a record's copies
abbrev pub copies_of : Option OpacRecord → List (List ℕ)
copies_of None = []
copies_of (Some o) = copy_lines o

-- a record, and not the reason why there is none
abbrev pub is_body_shown : RecordBody → Bool
is_body_shown (Retrieval v) = true
is_body_shown (Surrogate d) = false
is_body_shown (Fragment e) = true

-- the target sent the record or a part of it, and no diagnostic in its place
abbrev pub is_shown : Record → Bool
is_shown r = is_body_shown r.body
