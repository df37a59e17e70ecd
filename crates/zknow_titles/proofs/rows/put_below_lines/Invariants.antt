use Rattle.std.proofs.Common.{◌≡◌, ◌++◌, map, drop, string_bytes}
use Rattle.zknow_titles.specs.Lines.{ended}
use Rattle.zknow_titles.specs.Rows.{below_row}
use Rattle.zknow_titles.proofs.rows.put_below_lines.Given as goal

abbrev pub invariant-loop-line : goal.invariant-loop-line
invariant-loop-line l = l.out.items ++ ended (map (below_row l.w) (map string_bytes (drop l.line-index l.lines)))
    ≡ l.fn.out.items ++ ended (map (below_row l.w) (map string_bytes l.lines))
