-- The tables of the page have the rows that are due.
use Rattle.std.proofs.Common.{◌≡◌, ℕ, ◌+◌, ℤ, Bool, true, false, cond, List, [], ◌∷◌, ◌++◌, length, map, eqb, Option, Some, None}
use Rattle.std.specs.Prelude.{pos, int_lt, codes, slice_get}
use Rattle.std.specs.Fmt.{decimal, signed_decimal}
use Rattle.std.specs.List.{flat_map}
use Rattle.zhtml.specs.declared.elements.Element.TheVariants.{Meter}
use Rattle.zhtml.specs.Tables.{RowText}
use Rattle.zhtml.specs.Texts.{visible}
use Rattle.zhtml.proofs.TableTheory.{HasText, nothing_has_text, append_has_text, text_has_text, element_has_text, HasCells, append_has_cells, HasRows, nothing_has_rows, append_has_rows}
use Rattle.zknow.specs.declared.fact.Fact.{Fact}
use Rattle.zknow.specs.declared.tables.keys.RowKey.{RowKey}
use Rattle.zknow.specs.declared.tables.keys.SetKey.{SetKey}
use Rattle.zknow.specs.Known.{counts_at, is_failed_at, diags_at}
use Rattle.zmarc.specs.declared.charset.Charset.{Charset}
use Rattle.zknow_stops.specs.declared.stop.Stop.{Stop}
use Rattle.zknow_titles.specs.Blocks.{shown_count}
use Rattle.zknow_titles.specs.Heads.{stop_words}
use Rattle.zknow_titles.specs.Names.{name_or_number, label}
use Rattle.zknow_titles.specs.Titles.{sets_of, rows_of}
use Rattle.zknow_html.specs.declared.differences.Differences.{Differences}
use Rattle.zknow_html.specs.Catalogues.{found_text, refused_count, missing_text, share_text, meter, share, share_cell, reasons, number_cells, known_row, set_row, empty_cells, stop_row, stop_rows, stops_from, count_columns, catalogue_columns, catalogue_table}
use Rattle.zknow_html.specs.Differences.{DescriptionTexts, no_differences, differences}
use Rattle.zknow_html.specs.Records.{name_cell, title_cell, description_cells, record_row, one_of, differing_rows, described_rows, descriptions_at, position_rows, room_behind, rows_from, place_columns, field_columns, record_columns, record_table}
use Rattle.zknow_html.specs.Rows.{share_words, number_texts, known_text, set_text, stop_text, stop_texts, stop_texts_from, mark_text, hidden_text, description_texts, record_text, differing_texts, described_texts, position_texts, catalogue_texts}
use Rattle.zknow_html.proofs.CellTheory.{catalogue_is_visible, stopped_is_visible, record_is_visible, differs_is_visible, mark_has_text, hidden_has_text, cell_has_cell, text_has_cell, list_has_cell, compared_has_cell, compared_text_has_cell, compared_list_has_cell, row_header_has_cell, row_has, column_has_no_rows, block, block_has_rows, rows_follow, table_has_rows}

-- ---- one row each

map_has_rows : {X : Type 0} (f : X → List ℕ) (g : X → RowText) → ((x : X) → HasRows (f x) (g x ∷ [])) → (xs : List X)
    → HasRows (flat_map f xs) (map g xs)
map_has_rows f g one [] = nothing_has_rows
map_has_rows f g one (x ∷ xs) = append_has_rows (one x) (map_has_rows f g one xs)

-- ---- catalogues

meter_has_text : (shown : ℕ) (count : ℤ) → HasText (meter shown count) (visible (share_text shown count))
unfolding meter
meter_has_text shown count = element_has_text Meter _ (text_has_text (share_text shown count))

if_positive : (b : Bool) (shown : ℕ) (count : ℤ)
    → HasText (cond b (meter shown count) []) (cond b (visible (share_text shown count)) [])
if_positive true shown count = meter_has_text shown count
if_positive false shown count = nothing_has_text

share_has_text : (shown : ℕ) (counts : List ℤ) → HasText (share shown counts) (share_words shown counts)
share_has_text shown [] = nothing_has_text
share_has_text shown (c ∷ []) = if_positive (int_lt (pos 0) c) shown c
share_has_text shown (c ∷ d ∷ counts) = nothing_has_text

share_has_cell : (shown : ℕ) (counts : List ℤ) → HasCells (share_cell shown counts) (share_words shown counts ∷ [])
unfolding share_cell
share_has_cell shown counts = cell_has_cell (share_has_text shown counts)

numbers_have_cells : (counts : List ℤ) (shown refused : ℕ)
    → HasCells (number_cells counts shown refused) (number_texts counts shown refused)
unfolding number_cells
numbers_have_cells counts shown refused =
    append_has_cells (append_has_cells (append_has_cells (append_has_cells (text_has_cell (found_text counts))
    (text_has_cell (decimal shown))) (text_has_cell (decimal refused)))
    (text_has_cell (missing_text shown refused counts))) (share_has_cell shown counts)

known_has_row : (name : List ℕ) (counts : List ℤ) (shown refused : ℕ) (why : List (List ℕ))
    → HasRows (known_row name counts shown refused why) (known_text name counts shown refused why ∷ [])
unfolding known_row
known_has_row name counts shown refused why =
    row_has (codes "catalogue") catalogue_is_visible (append_has_cells
    (append_has_cells (row_header_has_cell name) (numbers_have_cells counts shown refused)) (list_has_cell why))

set_has_row : (shown : List (List ℕ)) (facts : List Fact) (b : SetKey)
    → HasRows (set_row shown facts b) (set_text shown facts b ∷ [])
set_has_row shown facts b =
    known_has_row (label shown b.target b.set) (counts_at b.target b.set facts) (shown_count facts b.target b.set)
    (refused_count facts b.target b.set)
    (reasons b.set (is_failed_at b.target b.set facts) (diags_at b.target b.set facts))

five_are_empty : HasCells empty_cells (visible [] ∷ visible [] ∷ visible [] ∷ visible [] ∷ visible [] ∷ [])
unfolding empty_cells
five_are_empty =
    append_has_cells (append_has_cells (append_has_cells (append_has_cells (text_has_cell []) (text_has_cell []))
    (text_has_cell [])) (text_has_cell [])) (text_has_cell [])

stop_has_row : (shown : List (List ℕ)) (target : ℕ) (s : Stop)
    → HasRows (stop_row shown target s) (stop_text shown target s ∷ [])
unfolding stop_row
stop_has_row shown target s =
    row_has (codes "stopped") stopped_is_visible (append_has_cells (append_has_cells
    (row_header_has_cell (name_or_number target (slice_get shown target))) five_are_empty)
    (text_has_cell (stop_words s.detail)))

stop_has_rows : (shown : List (List ℕ)) (target : ℕ) (s : Option Stop)
    → HasRows (stop_rows shown target s) (stop_texts shown target s)
stop_has_rows shown target None = nothing_has_rows
stop_has_rows shown target (Some s) = stop_has_row shown target s

stops_have_rows : (shown : List (List ℕ)) (target : ℕ) (stops : List (Option Stop))
    → HasRows (stops_from shown target stops) (stop_texts_from shown target stops)
stops_have_rows shown target [] = nothing_has_rows
stops_have_rows shown target (s ∷ stops) =
    append_has_rows (stop_has_rows shown target s) (stops_have_rows shown (target + 1) stops)

catalogue_columns_have_no_rows : HasRows catalogue_columns []
unfolding catalogue_columns count_columns
catalogue_columns_have_no_rows =
    append_has_rows (append_has_rows (append_has_rows (append_has_rows (append_has_rows (append_has_rows
    (column_has_no_rows (codes "Catalogue")) (column_has_no_rows (codes "Found"))) (column_has_no_rows (codes "Shown")))
    (column_has_no_rows (codes "Refused"))) (column_has_no_rows (codes "Missing"))) (column_has_no_rows (codes "Share")))
    (column_has_no_rows (codes "Why"))

pub catalogues_have_rows : (shown : List (List ℕ)) (stops : List (Option Stop)) (facts : List Fact)
    → HasRows (catalogue_table shown stops facts (sets_of facts)) (catalogue_texts shown stops facts)
catalogues_have_rows shown stops facts =
    table_has_rows catalogue_columns _ _ catalogue_columns_have_no_rows (block_has_rows (append_has_rows
    (map_has_rows (set_row shown facts) (set_text shown facts) (set_has_row shown facts) (sets_of facts))
    (stops_have_rows shown 0 stops)))

-- ---- records

name_has_cell : (name marked : List ℕ) → HasCells (name_cell name marked) ((visible name ++ mark_text marked) ∷ [])
unfolding name_cell
name_has_cell name marked = cell_has_cell (append_has_text (text_has_text name) (mark_has_text marked))

title_has_cell : (other other_lines : Bool) (title : List ℕ) (lines : List (List ℕ))
    → HasCells (title_cell other other_lines title lines) ((visible title ++ hidden_text (codes "Fields") lines) ∷ [])
unfolding title_cell
title_has_cell other other_lines title lines =
    compared_has_cell other
    (append_has_text (text_has_text title) (hidden_has_text other_lines (codes "Fields") lines))

description_has_cells : (parts : Differences) (d : DescriptionTexts)
    → HasCells (description_cells parts d) (description_texts d)
unfolding description_cells
description_has_cells parts d =
    append_has_cells (append_has_cells (append_has_cells (append_has_cells (compared_text_has_cell parts.year d.year)
    (title_has_cell parts.title parts.lines d.title d.lines)) (compared_text_has_cell parts.author d.author))
    (compared_text_has_cell parts.isbn d.isbn)) (compared_list_has_cell parts.copies d.copies)

record_has_row : (class marked : List ℕ) (parts : Differences) → visible class ≡ class → (shown : List (List ℕ))
    (k : RowKey) (d : DescriptionTexts)
    → HasRows (record_row class marked parts shown k d) (record_text class marked shown k d ∷ [])
unfolding record_row
record_has_row class marked parts same shown k d =
    row_has class same (append_has_cells (append_has_cells (text_has_cell (signed_decimal k.position))
    (name_has_cell (label shown k.target k.set) marked)) (description_has_cells parts d))

differing_have_rows : (shown : List (List ℕ)) (k : RowKey) (parts : Differences) (ds : List DescriptionTexts)
    → HasRows (differing_rows shown k parts ds) (differing_texts shown k parts ds)
differing_have_rows shown k parts ds =
    map_has_rows (record_row (codes "differs") (one_of (length ds) parts) parts shown k)
    (record_text (codes "differs") (one_of (length ds) parts) shown k)
    (record_has_row (codes "differs") (one_of (length ds) parts) parts differs_is_visible shown k) ds

described_have_rows : (shown : List (List ℕ)) (k : RowKey) (ds : List DescriptionTexts)
    → HasRows (described_rows shown k ds) (described_texts shown k ds)
described_have_rows shown k [] = nothing_has_rows
described_have_rows shown k (d ∷ []) =
    record_has_row (codes "record") [] no_differences record_is_visible shown k d
described_have_rows shown k (d ∷ e ∷ rest) =
    differing_have_rows shown k (differences d (e ∷ rest)) (d ∷ e ∷ rest)

position_has_rows : (shown : List (List ℕ)) (charsets : List (Option Charset)) (facts : List Fact) (k : RowKey)
    → HasRows (position_rows shown charsets facts k) (position_texts shown charsets facts k)
position_has_rows shown charsets facts k =
    described_have_rows shown k (descriptions_at charsets facts k)

-- a block, and those behind it
blocks_have_rows : (shown : List (List ℕ)) (charsets : List (Option Charset)) (facts : List Fact) (rows : List RowKey)
    (room : ℕ) (before : List ℕ)
    (texts : List RowText) → HasRows before texts
    → HasRows (block (before ++ rows_from shown charsets facts room rows))
    (texts ++ flat_map (position_texts shown charsets facts) rows)
blocks_have_rows shown charsets facts [] room before texts first =
    block_has_rows (append_has_rows first nothing_has_rows)
blocks_have_rows shown charsets facts (k ∷ rows) room before texts first =
    rows_follow (eqb room 0) before (position_rows shown charsets facts k)
    (rows_from shown charsets facts (room_behind room) rows) texts (position_texts shown charsets facts k)
    (flat_map (position_texts shown charsets facts) rows) first (position_has_rows shown charsets facts k)
    (blocks_have_rows shown charsets facts rows (room_behind room))

record_columns_have_no_rows : HasRows record_columns []
unfolding record_columns place_columns field_columns
record_columns_have_no_rows =
    append_has_rows (append_has_rows (column_has_no_rows (codes "Position")) (column_has_no_rows (codes "Catalogue")))
    (append_has_rows (append_has_rows (append_has_rows (append_has_rows (column_has_no_rows (codes "Year"))
    (column_has_no_rows (codes "Title"))) (column_has_no_rows (codes "Author"))) (column_has_no_rows (codes "ISBN")))
    (column_has_no_rows (codes "Copies")))

pub records_table_has_rows : (shown : List (List ℕ)) (charsets : List (Option Charset)) (facts : List Fact)
    → HasRows (record_table shown charsets facts (rows_of facts))
    (flat_map (position_texts shown charsets facts) (rows_of facts))
records_table_has_rows shown charsets facts =
    table_has_rows record_columns _ _ record_columns_have_no_rows
    (blocks_have_rows shown charsets facts (rows_of facts) 50 [] [] nothing_has_rows)
