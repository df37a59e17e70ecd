use Rattle.std.proofs.Common.{◌≡◌, ◌++◌, map, drop, string_bytes}
use Rattle.std.specs.List.{flat_map}
use Rattle.zknow_titles.specs.Rows.{row_lines}
use Rattle.zknow_titles.specs.Lines.{ended}
use Rattle.zknow_titles.proofs.titles.put_rows.Given as goal

abbrev pub invariant-loop-key : goal.invariant-loop-key
invariant-loop-key l =
    l.out.items ++ ended (flat_map (row_lines l.extent l.w (map string_bytes l.shown) l.charsets l.knowledge)
    (drop l.key-index l.rows))
    ≡ l.fn.out.items
    ++ ended (flat_map (row_lines l.extent l.w (map string_bytes l.shown) l.charsets l.knowledge) l.rows)
