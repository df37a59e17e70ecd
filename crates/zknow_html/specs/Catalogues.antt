-- The table of catalogues: what each found, what is shown of it, and why anything is missing.
use Rattle.std.specs.Prelude.{ℕ, ◌+◌, ◌-◌, ℤ, pos, ◌-ℤ◌, int_lt, Bool, if◌then◌else◌, Option, Some, None, List, [], ◌∷◌}
use Rattle.std.specs.Prelude.{◌++◌, codes, length, map, slice_get}
use Rattle.std.specs.Fmt.{decimal, signed_decimal}
use Rattle.std.specs.List.{flat_map}
use Rattle.zapdu.specs.declared.productions.diagnostic.DiagRec.{DiagRec}
use Rattle.zknow.specs.declared.fact.Fact.{Fact}
use Rattle.zknow.specs.declared.tables.keys.SetKey.{SetKey}
use Rattle.zknow.specs.Known.{counts_at, is_failed_at, diags_at}
use Rattle.zknow.specs.List.Listing.{positions_at}
use Rattle.zknow_stops.specs.declared.stop.Stop.{Stop}
use Rattle.zknow_titles.specs.Blocks.{joined_by, shown_count, failure_part, search_text, request_text}
use Rattle.zknow_titles.specs.Heads.{stop_words}
use Rattle.zknow_titles.specs.Names.{name_or_number, label}
use Rattle.zhtml.specs.declared.attributes.AttributeName.TheVariants.{Value, Max}
use Rattle.zhtml.specs.declared.elements.Element.TheVariants.{Meter}
use Rattle.zhtml.specs.Markup.{attribute_of, element}
use Rattle.zhtml.specs.Texts.{text}
use Rattle.zknow_html.specs.Cells.{column, row_header, cell, text_cell, list_cell, row, table}

-- ---- a set

-- `24`, `24 or 25`: how many records a catalogue found
abbrev pub found_text : List ℤ → List ℕ
found_text counts = joined_by (codes " or ") (map signed_decimal counts)

-- at how many positions of a set something is known, but no record is shown: the catalogue refused it
abbrev pub refused_count : List Fact → ℕ → ℕ → ℕ
refused_count facts target set = length (positions_at target set facts) - shown_count facts target set

-- how many of the records that a catalogue found are neither shown nor refused; none, if it found fewer
abbrev pub missing : ℕ → ℕ → ℤ → ℤ
missing shown refused count =
    if int_lt (pos (shown + refused)) count then count -ℤ pos (shown + refused) else pos 0

-- that number, if one count is known
abbrev pub missing_text : ℕ → ℕ → List ℤ → List ℕ
missing_text shown refused [] = []
missing_text shown refused (c ∷ []) = signed_decimal (missing shown refused c)
missing_text shown refused (c ∷ d ∷ counts) = []

-- `2 of 24`
abbrev pub share_text : ℕ → ℤ → List ℕ
share_text shown count = decimal shown ++ codes " of " ++ signed_decimal count

-- a bar: how many of so many are shown
unfoldable pub meter : ℕ → ℤ → List ℕ
meter shown count =
    element Meter (attribute_of Value (decimal shown) ∷ attribute_of Max (signed_decimal count) ∷ [])
    (text (share_text shown count))

-- that bar, if one count above 0 is known and no other
abbrev pub share : ℕ → List ℤ → List ℕ
share shown [] = []
share shown (c ∷ []) = if int_lt (pos 0) c then meter shown c else []
share shown (c ∷ d ∷ counts) = []

-- its cell
unfoldable pub share_cell : ℕ → List ℤ → List ℕ
share_cell shown counts = cell (share shown counts)

-- why records are missing: the failure of the search and its diagnostics, and those of requests for records
abbrev pub reasons : ℕ → Bool → List (ℤ × DiagRec) → List (List ℕ)
reasons set failed diags =
    failure_part set failed (flat_map search_text diags) ++ flat_map request_text diags

-- the cells of numbers
unfoldable pub number_cells : List ℤ → ℕ → ℕ → List ℕ
number_cells counts shown refused =
    text_cell (found_text counts) ++ text_cell (decimal shown) ++ text_cell (decimal refused)
    ++ text_cell (missing_text shown refused counts) ++ share_cell shown counts

-- the row of a set, by what is known of it
unfoldable pub known_row : List ℕ → List ℤ → ℕ → ℕ → List (List ℕ) → List ℕ
known_row name counts shown refused why =
    row (codes "catalogue") (row_header name ++ number_cells counts shown refused ++ list_cell why)

-- the row of a set
abbrev pub set_row : List (List ℕ) → List Fact → SetKey → List ℕ
set_row shown facts b =
    known_row (label shown b.target b.set) (counts_at b.target b.set facts) (shown_count facts b.target b.set)
    (refused_count facts b.target b.set)
    (reasons b.set (is_failed_at b.target b.set facts) (diags_at b.target b.set facts))

-- ---- stops

-- five empty cells, in place of numbers
unfoldable pub empty_cells : List ℕ
empty_cells = text_cell [] ++ text_cell [] ++ text_cell [] ++ text_cell [] ++ text_cell []

-- the row of a catalogue whose connection stopped
unfoldable pub stop_row : List (List ℕ) → ℕ → Stop → List ℕ
stop_row shown target s =
    row (codes "stopped") (row_header (name_or_number target (slice_get shown target)) ++ empty_cells
    ++ text_cell (stop_words s.detail))

-- the same, if it stopped
abbrev pub stop_rows : List (List ℕ) → ℕ → Option Stop → List ℕ
stop_rows shown target None = []
stop_rows shown target (Some s) = stop_row shown target s

-- of this catalogue and those after it
abbrev pub stops_from : List (List ℕ) → ℕ → List (Option Stop) → List ℕ
stops_from shown target [] = []
stops_from shown target (s ∷ stops) = stop_rows shown target s ++ stops_from shown (target + 1) stops

-- ---- the table

-- the columns of a name and of numbers
unfoldable pub count_columns : List ℕ
count_columns =
    column (codes "Catalogue") ++ column (codes "Found") ++ column (codes "Shown") ++ column (codes "Refused")
    ++ column (codes "Missing")

-- the columns
unfoldable pub catalogue_columns : List ℕ
catalogue_columns = count_columns ++ column (codes "Share") ++ column (codes "Why")

-- the table of these sets and of all stops
abbrev pub catalogue_table : List (List ℕ) → List (Option Stop) → List Fact → List SetKey → List ℕ
catalogue_table shown stops facts sets =
    table catalogue_columns (flat_map (set_row shown facts) sets ++ stops_from shown 0 stops)
