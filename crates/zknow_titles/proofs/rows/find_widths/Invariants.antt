use Rattle.std.proofs.Common.{◌≡◌, map, drop, string_bytes}
use Rattle.std.specs.Prelude.{fold}
use Rattle.zknow_titles.specs.Rows.{wider, widths}
use Rattle.zknow_titles.proofs.rows.find_widths.Given as goal

abbrev pub invariant-loop-key : goal.invariant-loop-key
invariant-loop-key l = fold (wider (map string_bytes l.shown)) l.found (drop l.key-index l.rows) ≡ widths
    (map string_bytes l.shown) l.rows
