-- The title, the author and the ISBN of a record of MARC; of a record with its copies those of the bibliographic
-- record.
use Rattle.std.specs.Prelude.{ℕ, ◌==◌, if◌then◌else◌, Option, Some, None, unwrap_or, List, [], length}
use Rattle.zapdu.specs.declared.productions.external.Content.{Content}
use Rattle.zapdu.specs.declared.productions.external.Content.TheVariants.{Single, Aligned, Arbitrary}
use Rattle.zapdu.specs.declared.productions.external.External.{External}
use Rattle.zapdu.specs.declared.productions.record.RecordBody.{RecordBody}
use Rattle.zapdu.specs.declared.productions.record.RecordBody.TheVariants.{Retrieval, Surrogate, Fragment}
use Rattle.zmarc.specs.declared.charset.Charset.{Charset}
use Rattle.zmarc.specs.declared.format.Format.{Format}
use Rattle.zmarc.specs.declared.format.Reading.{Reading}
use Rattle.zmarc.specs.Briefs.{read_in}
use Rattle.zmarc.specs.Fields.{title_text, author_text, isbn_text}
use Rattle.zmarc.specs.Syntaxes.{format_of}
use Rattle.zopac.specs.declared.opac.OpacRecord.{OpacRecord}

-- the texts of three fields, empty where the record has none
pub record FieldTexts : Type 0 where
  pub title : List ℕ
  pub author : List ℕ
  pub isbn : List ℕ

-- three texts
abbrev pub fields_of : List ℕ → List ℕ → List ℕ → FieldTexts
fields_of title author isbn = record { title = title; author = author; isbn = isbn }

-- no text
abbrev pub no_fields : FieldTexts
no_fields = fields_of [] [] []

-- those of a record of MARC
abbrev pub marc_fields : Reading → List ℕ → FieldTexts
marc_fields reading octets =
    fields_of (title_text reading octets) (author_text reading octets) (isbn_text reading octets)

-- those of octets that are read in a format; their character set may be known
abbrev pub format_fields : Option Charset → Option Format → List ℕ → FieldTexts
format_fields charset None octets = no_fields
format_fields charset (Some format) octets = marc_fields (read_in format charset) octets

-- those of a content in a syntax: of octets that are read as MARC; other contents have none
abbrev pub content_fields : Option Charset → Option (List ℕ) → Content → FieldTexts
content_fields charset direct (Single e) = no_fields
content_fields charset direct (Aligned octets) = format_fields charset (format_of (unwrap_or direct []) octets) octets
content_fields charset direct (Arbitrary bits) = no_fields

-- those of what the target sent
abbrev pub body_fields : Option Charset → RecordBody → FieldTexts
body_fields charset (Retrieval v) = content_fields charset v.direct v.content
body_fields charset (Surrogate d) = no_fields
body_fields charset (Fragment e) = no_fields

-- those of a bibliographic record
abbrev pub bibliographic_fields : Option Charset → Option External → FieldTexts
bibliographic_fields charset None = no_fields
bibliographic_fields charset (Some v) = content_fields charset v.direct v.content

-- those of what the target sent, which is a record with its copies or none
abbrev pub fields_with : Option Charset → RecordBody → Option OpacRecord → FieldTexts
fields_with charset body None = body_fields charset body
fields_with charset body (Some o) = bibliographic_fields charset o.bibliographic

-- the title, or the line of the record if it has none
abbrev pub title_or : List ℕ → List ℕ → List ℕ
title_or title line = if length title == 0 then line else title
