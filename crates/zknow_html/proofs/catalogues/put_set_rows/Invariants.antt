use Rattle.std.proofs.Common.{◌≡◌, ◌++◌, map, drop, string_bytes}
use Rattle.std.specs.List.{flat_map}
use Rattle.zknow_html.specs.Catalogues.{set_row}
use Rattle.zknow_html.proofs.catalogues.put_set_rows.Given as goal

abbrev pub invariant-loop-key : goal.invariant-loop-key
invariant-loop-key l =
    string_bytes l.out ++ flat_map (set_row (map string_bytes l.shown) l.knowledge) (drop l.key-index l.sets)
    ≡ string_bytes l.fn.out ++ flat_map (set_row (map string_bytes l.shown) l.knowledge) l.sets
