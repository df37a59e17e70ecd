-- The rows of the view: position, name, year, text.
use Rattle.std.specs.Prelude.{ℕ, ◌-◌, Option, List, [], ◌∷◌, ◌++◌, codes, length, map, fold, max}
use Rattle.std.specs.Fmt.{decimal, signed_decimal}
use Rattle.std.specs.List.{flat_map}
use Rattle.zapdu.specs.declared.productions.record.Record.{Record}
use Rattle.zknow.specs.declared.fact.Fact.{Fact}
use Rattle.zknow.specs.declared.tables.keys.RowKey.{RowKey}
use Rattle.zknow.specs.Known.{records_at}
use Rattle.zmarc.specs.declared.charset.Charset.{Charset}
use Rattle.zmarc.specs.Charsets.{charset_at}
use Rattle.zopac.specs.declared.opac.OpacRecord.{OpacRecord}
use Rattle.zknow_titles.specs.declared.rows.Widths.{Widths}
use Rattle.zknow_titles.specs.declared.wholes.Extent.{Extent}
use Rattle.zknow_titles.specs.Columns.{width, clipped, padded, spaces}
use Rattle.zknow_titles.specs.Entries.{EntryText, plain, entry, opac_of, copies_of}
use Rattle.zknow_titles.specs.Names.{label}
use Rattle.zknow_titles.specs.Wholes.{whole_lines}

-- a name takes at most 24 columns
abbrev pub row_name : List (List ℕ) → RowKey → List ℕ
row_name shown k = clipped 24 (label shown k.target k.set)

-- the columns that a row's position takes in decimal
abbrev pub position_width : RowKey → ℕ
position_width k = length (signed_decimal k.position)

-- the columns that a row's name takes, as it is shown
abbrev pub name_width : List (List ℕ) → RowKey → ℕ
name_width shown k = width (row_name shown k)

-- at least the widths so far, and those of one row more
abbrev pub wider : List (List ℕ) → Widths → RowKey → Widths
wider shown w k = record {
  position = max w.position (position_width k);
  name = max w.name (name_width shown k);
}

-- the columns of positions and of names, over all rows
abbrev pub widths : List (List ℕ) → List RowKey → Widths
widths shown rows = fold (wider shown) (record { position = 0; name = 0 }) rows

-- a row's name as it is printed, filled up with spaces
abbrev pub name_column : Widths → List (List ℕ) → RowKey → List ℕ
name_column w shown k = padded w.name (row_name shown k)

-- position and name
abbrev pub row_head : Widths → List (List ℕ) → RowKey → List ℕ
row_head w shown k =
    codes "  " ++ spaces (w.position - position_width k) ++ signed_decimal k.position
    ++ codes "  " ++ name_column w shown k ++ codes "  "

-- year and text
abbrev pub row_entry : EntryText → List ℕ
row_entry e = padded 4 e.year ++ codes "  " ++ e.line

-- year and text below the first line of a row
abbrev pub further_entry : Widths → EntryText → List ℕ
further_entry w e = spaces 6 ++ spaces w.position ++ spaces w.name ++ row_entry e

-- a line of its own below that of a record
abbrev pub below_row : Widths → List ℕ → List ℕ
below_row w line = further_entry w (plain line)

-- the copies of a record
abbrev pub copy_rows : Widths → Option OpacRecord → List (List ℕ)
copy_rows w o = map (below_row w) (copies_of o)

-- what stands below the line of a record: the whole record, if it is shown, and its copies
abbrev pub below_rows : Extent → Option Charset → Widths → Record → Option OpacRecord → List (List ℕ)
below_rows extent charset w r o = map (below_row w) (whole_lines extent charset r o) ++ copy_rows w o

-- a further record of a row, below the first line, and what stands below that
abbrev pub further_lines : Extent → Option Charset → Widths → Record → List (List ℕ)
further_lines extent charset w r = further_entry w (entry charset r) ∷ below_rows extent charset w r (opac_of r)

-- how many records a row has, where it has several
abbrev pub several : List ℕ → ℕ → List ℕ
several head count = head ++ codes "      " ++ decimal count ++ codes " different records"

-- a row: the record and what stands below it, or how many records there are and then each
abbrev pub record_lines : Extent → Option Charset → Widths → List ℕ → List Record → List (List ℕ)
record_lines extent charset w head [] = []
record_lines extent charset w head (r ∷ []) =
    (head ++ row_entry (entry charset r)) ∷ below_rows extent charset w r (opac_of r)
record_lines extent charset w head (r ∷ q ∷ rest) =
    several head (length (r ∷ q ∷ rest)) ∷ flat_map (further_lines extent charset w) (r ∷ q ∷ rest)

-- the lines of a row, from all records that are known at its position, in the character set of the row's target
abbrev pub row_lines : Extent → Widths → List (List ℕ) → List (Option Charset) → List Fact → RowKey → List (List ℕ)
row_lines extent w shown charsets facts k =
    record_lines extent (charset_at charsets k.target) w (row_head w shown k)
    (records_at k.target k.set k.position facts)
