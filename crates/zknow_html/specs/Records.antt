-- The table of records: position, catalogue, year, title with all fields behind it, author, ISBN, copies.
use Rattle.std.specs.Prelude.{ℕ, ◌-◌, ◌==◌, Bool, if◌then◌else◌, List, [], ◌∷◌, ◌++◌, codes, length, map, Option}
use Rattle.std.specs.Fmt.{decimal, signed_decimal}
use Rattle.std.specs.List.{flat_map}
use Rattle.zknow.specs.declared.fact.Fact.{Fact}
use Rattle.zknow.specs.declared.tables.keys.RowKey.{RowKey}
use Rattle.zknow.specs.Known.{records_at}
use Rattle.zknow_titles.specs.Blocks.{behind_colon}
use Rattle.zknow_titles.specs.Names.{label}
use Rattle.zmarc.specs.declared.charset.Charset.{Charset}
use Rattle.zmarc.specs.Charsets.{charset_at}
use Rattle.zhtml.specs.Texts.{text}
use Rattle.zknow_html.specs.declared.differences.Differences.{Differences}
use Rattle.zknow_html.specs.Cells.{column, cell, text_cell, compared_cell, compared_text, compared_list, mark, hidden, row, block_end, table}
use Rattle.zknow_html.specs.Descriptions.{description_of}
use Rattle.zknow_html.specs.Differences.{DescriptionTexts, no_differences, differences, difference_names}

-- ---- one record

-- the cell of a catalogue's name, with a mark behind it
unfoldable pub name_cell : List ℕ → List ℕ → List ℕ
name_cell name marked = cell (text name ++ mark marked)

-- the cell of a title, with the lines of all fields behind it; both are marked by themselves
unfoldable pub title_cell : Bool → Bool → List ℕ → List (List ℕ) → List ℕ
title_cell other other_lines title lines =
    compared_cell other (text title ++ hidden other_lines (codes "Fields") lines)

-- the cells of what is shown of a record: each that differs is marked
unfoldable pub description_cells : Differences → DescriptionTexts → List ℕ
description_cells parts d =
    compared_text parts.year d.year ++ title_cell parts.title parts.lines d.title d.lines
    ++ compared_text parts.author d.author ++ compared_text parts.isbn d.isbn ++ compared_list parts.copies d.copies

-- the row of a record: of a class, with a mark, and with what differs
unfoldable pub record_row : List ℕ → List ℕ → Differences → List (List ℕ) → RowKey → DescriptionTexts → List ℕ
record_row class marked parts shown k d =
    row class (text_cell (signed_decimal k.position) ++ name_cell (label shown k.target k.set) marked
    ++ description_cells parts d)

-- ---- the records at a position

-- what marks each of several different records: how many there are, and what differs in what is shown of them
abbrev pub one_of : ℕ → Differences → List ℕ
one_of count parts =
    codes "one of " ++ decimal count ++ codes " different records" ++ behind_colon (difference_names parts)

-- a row for each of several records, with its mark
abbrev pub differing_rows : List (List ℕ) → RowKey → Differences → List DescriptionTexts → List ℕ
differing_rows shown k parts ds =
    flat_map (record_row (codes "differs") (one_of (length ds) parts) parts shown k) ds

-- a row for each record; of several each has a mark
abbrev pub described_rows : List (List ℕ) → RowKey → List DescriptionTexts → List ℕ
described_rows shown k [] = []
described_rows shown k (d ∷ []) = record_row (codes "record") [] no_differences shown k d
described_rows shown k (d ∷ e ∷ rest) = differing_rows shown k (differences d (e ∷ rest)) (d ∷ e ∷ rest)

-- what is shown of each record at a position of a set, in the character set of its target
abbrev pub descriptions_at : List (Option Charset) → List Fact → RowKey → List DescriptionTexts
descriptions_at charsets facts k =
    map (description_of (charset_at charsets k.target)) (records_at k.target k.set k.position facts)

-- the rows of a position of a set
abbrev pub position_rows : List (List ℕ) → List (Option Charset) → List Fact → RowKey → List ℕ
position_rows shown charsets facts k = described_rows shown k (descriptions_at charsets facts k)

-- ---- blocks of rows: what a browser lays out together

-- what stands before the rows of a position, if the block has room for so many positions
abbrev pub block_break : ℕ → List ℕ
block_break room = if room == 0 then block_end else []

-- for how many it has room behind that; a new block has room for 50
abbrev pub room_behind : ℕ → ℕ
room_behind room = (if room == 0 then 50 else room) - 1

-- the rows of each position, from one on
abbrev pub rows_from : List (List ℕ) → List (Option Charset) → List Fact → ℕ → List RowKey → List ℕ
rows_from shown charsets facts room [] = []
rows_from shown charsets facts room (k ∷ rows) =
    block_break room ++ position_rows shown charsets facts k ++ rows_from shown charsets facts (room_behind room) rows

-- ---- the table

-- the columns of where a record is
unfoldable pub place_columns : List ℕ
place_columns = column (codes "Position") ++ column (codes "Catalogue")

-- the columns of what a record is
unfoldable pub field_columns : List ℕ
field_columns =
    column (codes "Year") ++ column (codes "Title") ++ column (codes "Author") ++ column (codes "ISBN")
    ++ column (codes "Copies")

-- the columns
unfoldable pub record_columns : List ℕ
record_columns = place_columns ++ field_columns

-- the table of these rows
abbrev pub record_table : List (List ℕ) → List (Option Charset) → List Fact → List RowKey → List ℕ
record_table shown charsets facts rows = table record_columns (rows_from shown charsets facts 50 rows)
