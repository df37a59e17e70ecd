-- The view for readers, as a function of the names, the character sets, the stops and the facts.
use Rattle.std.specs.Prelude.{ℕ, ◌==◌, ◌||◌, if◌then◌else◌, Option, List, [], ◌∷◌, ◌++◌, length}
use Rattle.std.specs.List.{flat_map, filter_map}
use Rattle.zknow.specs.declared.fact.Fact.{Fact}
use Rattle.zknow.specs.declared.tables.keys.RowKey.{RowKey}
use Rattle.zknow.specs.declared.tables.keys.SetKey.{SetKey}
use Rattle.zknow.specs.List.Listing.{ascending, block_key_of, row_key_of}
use Rattle.zknow.specs.Tables.Keys.{set_cmp, row_cmp}
use Rattle.zmarc.specs.declared.charset.Charset.{Charset}
use Rattle.zknow_stops.specs.declared.stop.Stop.{Stop}
use Rattle.zknow_titles.specs.declared.wholes.Extent.{Extent}
use Rattle.zknow_titles.specs.declared.wholes.Extent.TheVariants.{Title, Whole}
use Rattle.zknow_titles.specs.Heads.{head_lines}
use Rattle.zknow_titles.specs.Lines.{ended}
use Rattle.zknow_titles.specs.Names.{shown_names}
use Rattle.zknow_titles.specs.Rows.{widths, row_lines}

-- the sets of which a count, a failure or a diagnostic is known, by target and set
abbrev pub sets_of : List Fact → List SetKey
sets_of facts = ascending set_cmp (filter_map block_key_of facts)

-- the rows of the list, by position, target and set
abbrev pub rows_of : List Fact → List RowKey
rows_of facts = ascending row_cmp (filter_map row_key_of facts)

-- an empty line between the head and the rows, where there are both
abbrev pub between : {X : Type 0} → List X → List RowKey → List (List ℕ)
between head rows = if length head == 0 || length rows == 0 then [] else [] ∷ []

-- the lines
abbrev pub title_lines : Extent → List (List ℕ) → List (Option Charset) → List (Option Stop) → List Fact → List SetKey
    → List RowKey → List (List ℕ)
title_lines extent shown charsets stops facts sets rows =
    head_lines shown facts 0 stops sets ++ between (head_lines shown facts 0 stops sets) rows
    ++ flat_map (row_lines extent (widths shown rows) shown charsets facts) rows

-- the text that is printed: the lines, each with its line feed
abbrev pub view : Extent → List (List ℕ) → List (Option Charset) → List (Option Stop) → List Fact → List ℕ
view extent names charsets stops facts =
    ended (title_lines extent (shown_names names) charsets stops facts (sets_of facts) (rows_of facts))

-- the view with the title of each record
unfoldable pub titles : List (List ℕ) → List (Option Charset) → List (Option Stop) → List Fact → List ℕ
titles names charsets stops facts = view Title names charsets stops facts

-- the view with the title of each record, and below it the whole record
unfoldable pub whole_records : List (List ℕ) → List (Option Charset) → List (Option Stop) → List Fact → List ℕ
whole_records names charsets stops facts = view Whole names charsets stops facts
