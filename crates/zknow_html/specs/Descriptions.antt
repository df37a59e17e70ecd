-- What is shown of a record: the texts of its cells, and the lines of all its fields.
use Rattle.std.specs.Prelude.{ℕ, Option, List}
use Rattle.zapdu.specs.declared.productions.record.Record.{Record}
use Rattle.zmarc.specs.declared.charset.Charset.{Charset}
use Rattle.zopac.specs.declared.opac.OpacRecord.{OpacRecord}
use Rattle.zknow_titles.specs.Entries.{EntryText, entry_with, opac_of, copies_of}
use Rattle.zknow_titles.specs.Wholes.{lines_with}
use Rattle.zknow_html.specs.Differences.{DescriptionTexts}
use Rattle.zknow_html.specs.Fields.{FieldTexts, fields_with, title_or}

-- by the entry of the view for readers and by the fields; a record without a title has the line of that entry
abbrev pub described : EntryText → FieldTexts → List (List ℕ) → List (List ℕ) → DescriptionTexts
described e fields copies lines = record {
  year = e.year;
  title = title_or fields.title e.line;
  author = fields.author;
  isbn = fields.isbn;
  copies = copies;
  lines = lines;
}

-- of a record, which is one with its copies or none; its lines are those of the view of whole records
abbrev pub description_with : Option Charset → Record → Option OpacRecord → DescriptionTexts
description_with charset r o =
    described (entry_with charset r o) (fields_with charset r.body o) (copies_of o) (lines_with charset r o)

-- of a record; the character set of the target's records may be known
abbrev pub description_of : Option Charset → Record → DescriptionTexts
description_of charset r = description_with charset r (opac_of r)
