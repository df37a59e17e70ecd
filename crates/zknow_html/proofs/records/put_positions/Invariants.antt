use Rattle.std.proofs.Common.{◌≡◌, ◌++◌, map, drop, string_bytes}
use Rattle.zknow_html.specs.Records.{rows_from}
use Rattle.zknow_html.proofs.records.put_positions.Given as goal

abbrev pub invariant-loop-key : goal.invariant-loop-key
invariant-loop-key l =
    string_bytes l.out ++ rows_from (map string_bytes l.shown) l.charsets l.knowledge l.room (drop l.key-index l.rows)
    ≡ string_bytes l.fn.out ++ rows_from (map string_bytes l.shown) l.charsets l.knowledge 50 l.rows
