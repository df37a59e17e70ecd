-- What is known as lines of JSON, as a function of the names, the character sets, the stops and the facts.
use Rattle.std.specs.Prelude.{ℕ, Option, List, ◌++◌}
use Rattle.std.specs.List.{flat_map, filter_map}
use Rattle.zknow.specs.declared.fact.Fact.{Fact}
use Rattle.zknow.specs.List.Listing.{ascending, block_key_of, row_key_of}
use Rattle.zknow.specs.Tables.Keys.{set_cmp, row_cmp}
use Rattle.zmarc.specs.declared.charset.Charset.{Charset}
use Rattle.zknow_stops.specs.declared.stop.Stop.{Stop}
use Rattle.zknow_json.specs.Sets.{set_lines}
use Rattle.zknow_json.specs.Stops.{lines_from}
use Rattle.zknow_json.specs.Records.{row_line}

-- The lines in the order of the list: the sets by target and set, then the targets that stopped, then the rows by
-- position, target and set.
unfoldable pub json_lines : List (List ℕ) → List (Option Charset) → List (Option Stop) → List Fact → List ℕ
json_lines names charsets stops facts =
    flat_map (set_lines names facts) (ascending set_cmp (filter_map block_key_of facts))
    ++ lines_from names 0 stops
    ++ flat_map (row_line names charsets facts) (ascending row_cmp (filter_map row_key_of facts))
