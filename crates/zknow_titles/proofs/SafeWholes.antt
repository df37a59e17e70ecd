-- Whatever a record is, the lines below its title are safe text.
use Rattle.std.proofs.Common.{ℕ, Option, Some, None, List, []}
use Rattle.std.specs.Prelude.{◌&&◌, All, unwrap_or}
use Rattle.std.specs.Str.{bytes_eq, encode_utf8_all}
use Rattle.std.specs.Str.Lines.{lines}
use Rattle.zber.specs.Segments.{is_string, string_octets}
use Rattle.zapdu.specs.declared.productions.external.Content.{Content}
use Rattle.zapdu.specs.declared.productions.external.Content.TheVariants.{Single, Aligned, Arbitrary}
use Rattle.zapdu.specs.declared.productions.external.External.{External}
use Rattle.zapdu.specs.declared.productions.record.Record.{Record}
use Rattle.zapdu.specs.declared.productions.record.RecordBody.{RecordBody}
use Rattle.zapdu.specs.declared.productions.record.RecordBody.TheVariants.{Retrieval, Surrogate, Fragment}
use Rattle.zmarc.specs.declared.charset.Charset.{Charset}
use Rattle.zmarc.specs.declared.charset.Charset.TheVariants.{Utf8}
use Rattle.zmarc.specs.declared.format.Format.{Format}
use Rattle.zmarc.specs.Briefs.{read_in}
use Rattle.zmarc.specs.Charsets.{characters, text}
use Rattle.zmarc.specs.Shown.{IsSafeText}
use Rattle.zmarc.specs.Syntaxes.{format_of}
use Rattle.zmarc.proofs.SafeLines.{field_lines_are_safe}
use Rattle.zmarc.proofs.SafeTheory.{text_is_safe}
use Rattle.zopac.specs.declared.opac.OpacRecord.{OpacRecord}
use Rattle.zknow_titles.specs.declared.wholes.Extent.{Extent}
use Rattle.zknow_titles.specs.declared.wholes.Extent.TheVariants.{Title, Whole}
use Rattle.zknow_titles.specs.Entries.{sutrs}
use Rattle.zknow_titles.specs.Sutrs.{text_charset}
use Rattle.zknow_titles.specs.Wholes.{text_lines, marc_lines, content_lines, body_lines, bibliographic_lines, lines_with, whole_lines}
use Rattle.zknow_titles.proofs.SafeTexts.{none_safe, all_either, all_map}

text_lines_safe : (set : Charset) (octets : List ℕ) → All IsSafeText (text_lines set octets)
text_lines_safe set octets =
    all_map (text Utf8) (text_is_safe Utf8) (lines (encode_utf8_all (characters set octets)))

module _ (charset : Option Charset) where
  abbrev set : Charset
  set = text_charset charset

  marc_lines_safe : (format : Option Format) (octets : List ℕ) → All IsSafeText (marc_lines charset format octets)
  marc_lines_safe None octets = none_safe
  marc_lines_safe (Some format) octets = (field_lines_are_safe (read_in format charset) octets).each

  content_lines_safe : (syntax : List ℕ) (content : Content) → All IsSafeText (content_lines charset syntax content)
  content_lines_safe syntax (Single e) =
      all_either (bytes_eq syntax sutrs && is_string e) (text_lines set (string_octets e)) []
      (text_lines_safe set (string_octets e)) none_safe
  content_lines_safe syntax (Aligned octets) =
      all_either (bytes_eq syntax sutrs) (text_lines set octets) (marc_lines charset (format_of syntax octets) octets)
      (text_lines_safe set octets) (marc_lines_safe (format_of syntax octets) octets)
  content_lines_safe syntax (Arbitrary bits) = none_safe

  body_lines_safe : (body : RecordBody) → All IsSafeText (body_lines charset body)
  body_lines_safe (Retrieval v) = content_lines_safe (unwrap_or v.direct []) v.content
  body_lines_safe (Surrogate d) = none_safe
  body_lines_safe (Fragment e) = none_safe

  bibliographic_lines_safe : (found : Option External) → All IsSafeText (bibliographic_lines charset found)
  bibliographic_lines_safe None = none_safe
  bibliographic_lines_safe (Some v) = content_lines_safe (unwrap_or v.direct []) v.content

  lines_with_safe : (r : Record) (o : Option OpacRecord) → All IsSafeText (lines_with charset r o)
  lines_with_safe r None = body_lines_safe r.body
  lines_with_safe r (Some o) = bibliographic_lines_safe o.bibliographic

pub whole_lines_safe : (extent : Extent) (charset : Option Charset) (r : Record) (o : Option OpacRecord)
    → All IsSafeText (whole_lines extent charset r o)
whole_lines_safe Title charset r o = none_safe
whole_lines_safe Whole charset r o = lines_with_safe charset r o
