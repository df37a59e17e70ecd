use Rattle.std.proofs.Common.{◌≡◌, ◌++◌, map, drop}
use Rattle.zopac.specs.Copies.{holding_line}
use Rattle.zknow_titles.specs.Lines.{ended}
use Rattle.zknow_titles.specs.Rows.{below_row}
use Rattle.zknow_titles.proofs.rows.put_each_copy.Given as goal

abbrev pub invariant-loop-holding : goal.invariant-loop-holding
invariant-loop-holding l =
    l.out.items ++ ended (map (below_row l.w) (map holding_line (drop l.holding-index l.holdings)))
    ≡ l.fn.out.items ++ ended (map (below_row l.w) (map holding_line l.holdings))
