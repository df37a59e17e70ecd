use Rattle.std.proofs.Common.{◌≡◌, ◌++◌, drop, string_bytes}
use Rattle.std.specs.List.{flat_map}
use Rattle.zknow_json.specs.Records.{row_line}
use Rattle.zknow_json.proofs.lines.put_rows.Given as goal

abbrev pub invariant-loop-key : goal.invariant-loop-key
invariant-loop-key l =
    string_bytes l.out ++ flat_map (row_line l.names l.charsets l.knowledge) (drop l.key-index l.rows)
    ≡ string_bytes l.fn.out ++ flat_map (row_line l.names l.charsets l.knowledge) l.rows
