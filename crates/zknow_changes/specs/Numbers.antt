-- Control numbers of records: what a catalogue names each of its records by (MARC 21 and UNIMARC, field 001).
use Rattle.std.specs.Prelude.{ℕ, if◌then◌else◌, Option, Some, None, unwrap_or, List, [], ◌∷◌, codes}
use Rattle.std.specs.Option.{option_and_then}
use Rattle.std.specs.Str.{bytes_eq}
use Rattle.zapdu.specs.declared.productions.external.Content.{Content}
use Rattle.zapdu.specs.declared.productions.external.Content.TheVariants.{Single, Aligned, Arbitrary}
use Rattle.zapdu.specs.declared.productions.external.External.{External}
use Rattle.zapdu.specs.declared.productions.record.Record.{Record}
use Rattle.zapdu.specs.declared.productions.record.RecordBody.{RecordBody}
use Rattle.zapdu.specs.declared.productions.record.RecordBody.TheVariants.{Retrieval, Surrogate, Fragment}
use Rattle.zmarc.specs.declared.format.Format.{Format}
use Rattle.zmarc.specs.Records.{is_record, first_field}
use Rattle.zmarc.specs.Subfields.{filled}
use Rattle.zmarc.specs.Syntaxes.{format_of}
use Rattle.zopac.specs.declared.opac.OpacRecord.{OpacRecord}
use Rattle.zopac.specs.Opacs.{opac_meaning}

-- ---- records of MARC

-- the control number of a record of ISO 2709: what the first field 001 has, if that is anything
abbrev pub marc_number : List ℕ → Option (List ℕ)
marc_number octets = if is_record octets then option_and_then filled (first_field (codes "001") octets) else None

-- that of octets that are read in a format of MARC; of others none
abbrev pub format_number : Option Format → List ℕ → Option (List ℕ)
format_number None octets = None
format_number (Some format) octets = marc_number octets

-- that of a content in a syntax; only octets have one
abbrev pub content_number : List ℕ → Content → Option (List ℕ)
content_number syntax (Single e) = None
content_number syntax (Aligned octets) = format_number (format_of syntax octets) octets
content_number syntax (Arbitrary bits) = None

-- that of an EXTERNAL
abbrev pub external_number : External → Option (List ℕ)
external_number v = content_number (unwrap_or v.direct []) v.content

-- ---- records with their copies (Appendix REC)

-- the syntax OPAC: 1.2.840.10003.5.102
abbrev pub opac : List ℕ
opac = 1 ∷ 2 ∷ 840 ∷ 10003 ∷ 5 ∷ 102 ∷ []

-- the record with its copies that an element in a syntax stands for, if it stands for one
abbrev pub opac_of : List ℕ → Content → Option OpacRecord
opac_of syntax (Single e) = if bytes_eq syntax opac then opac_meaning e else None
opac_of syntax (Aligned octets) = None
opac_of syntax (Arbitrary bits) = None

-- the control number of a record, or of a record with its copies that of the bibliographic record
abbrev pub number_with : External → Option OpacRecord → Option (List ℕ)
number_with v None = external_number v
number_with v (Some o) = option_and_then external_number o.bibliographic

-- ---- what a target sends

-- the control number of what a target sent; diagnostics and fragments have none
abbrev pub body_number : RecordBody → Option (List ℕ)
body_number (Retrieval v) = number_with v (opac_of (unwrap_or v.direct []) v.content)
body_number (Surrogate d) = None
body_number (Fragment m) = None

-- the control number of a record
abbrev pub control_number : Record → Option (List ℕ)
control_number r = body_number r.body
