-- Whole records: the lines that stand below the line of a record.
use Rattle.std.specs.Prelude.{ℕ, ◌&&◌, if◌then◌else◌, Option, Some, None, unwrap_or, List, [], map}
use Rattle.std.specs.Str.{bytes_eq, encode_utf8_all}
use Rattle.std.specs.Str.Lines.{lines}
use Rattle.zber.specs.Elements.{Element}
use Rattle.zber.specs.Segments.{is_string, string_octets}
use Rattle.zapdu.specs.declared.productions.external.Content.{Content}
use Rattle.zapdu.specs.declared.productions.external.Content.TheVariants.{Single, Aligned, Arbitrary}
use Rattle.zapdu.specs.declared.productions.external.External.{External}
use Rattle.zapdu.specs.declared.productions.record.RecordBody.{RecordBody}
use Rattle.zapdu.specs.declared.productions.record.RecordBody.TheVariants.{Retrieval, Surrogate, Fragment}
use Rattle.zapdu.specs.declared.productions.record.Record.{Record}
use Rattle.zmarc.specs.declared.charset.Charset.{Charset}
use Rattle.zmarc.specs.declared.charset.Charset.TheVariants.{Utf8}
use Rattle.zmarc.specs.declared.format.Format.{Format}
use Rattle.zmarc.specs.Briefs.{read_in}
use Rattle.zmarc.specs.Charsets.{characters, text}
use Rattle.zmarc.specs.Lines.{field_lines}
use Rattle.zmarc.specs.Syntaxes.{format_of}
use Rattle.zopac.specs.declared.opac.OpacRecord.{OpacRecord}
use Rattle.zknow_titles.specs.declared.wholes.Extent.{Extent}
use Rattle.zknow_titles.specs.declared.wholes.Extent.TheVariants.{Title, Whole}
use Rattle.zknow_titles.specs.Entries.{sutrs}
use Rattle.zknow_titles.specs.Sutrs.{text_charset}

-- a text of SUTRS: its lines, each as safe text. A line feed ends a line, with the carriage return before it.
abbrev pub text_lines : Charset → List ℕ → List (List ℕ)
text_lines set octets = map (text Utf8) (lines (encode_utf8_all (characters set octets)))

-- a record of MARC: its leader and its fields; none in no format
abbrev pub marc_lines : Option Charset → Option Format → List ℕ → List (List ℕ)
marc_lines charset None octets = []
marc_lines charset (Some format) octets = field_lines (read_in format charset) octets

-- octets of a syntax; the character set of the target's records may be known
abbrev pub octets_lines : Option Charset → List ℕ → List ℕ → List (List ℕ)
octets_lines charset syntax octets =
    if bytes_eq syntax sutrs then text_lines (text_charset charset) octets
    else marc_lines charset (format_of syntax octets) octets

-- an element of a syntax: text of SUTRS, or nothing
abbrev pub element_lines : Option Charset → List ℕ → Element → List (List ℕ)
element_lines charset syntax e =
    if bytes_eq syntax sutrs && is_string e then text_lines (text_charset charset) (string_octets e) else []

-- a record in a syntax
abbrev pub content_lines : Option Charset → List ℕ → Content → List (List ℕ)
content_lines charset syntax (Single e) = element_lines charset syntax e
content_lines charset syntax (Aligned octets) = octets_lines charset syntax octets
content_lines charset syntax (Arbitrary bits) = []

-- a record by its content; nothing of a diagnostic in its place, nor of a fragment
abbrev pub body_lines : Option Charset → RecordBody → List (List ℕ)
body_lines charset (Retrieval v) = content_lines charset (unwrap_or v.direct []) v.content
body_lines charset (Surrogate d) = []
body_lines charset (Fragment e) = []

-- a bibliographic record by its content
abbrev pub bibliographic_lines : Option Charset → Option External → List (List ℕ)
bibliographic_lines charset None = []
bibliographic_lines charset (Some v) = content_lines charset (unwrap_or v.direct []) v.content

-- a record; of a record with its copies the bibliographic record
abbrev pub lines_with : Option Charset → Record → Option OpacRecord → List (List ℕ)
lines_with charset r None = body_lines charset r.body
lines_with charset r (Some o) = bibliographic_lines charset o.bibliographic

-- the lines that stand below the title of a record: none, or the whole record
abbrev pub whole_lines : Extent → Option Charset → Record → Option OpacRecord → List (List ℕ)
whole_lines Title charset r o = []
whole_lines Whole charset r o = lines_with charset r o
