use Rattle.std.proofs.Common.{◌≡◌, ◌++◌, take}
use Rattle.std.specs.List.{flat_map}
use Rattle.zknow_changes.specs.Indexes.{row_changes}
use Rattle.zknow_changes.proofs.between.put_rows.Given as goal

abbrev pub invariant-loop-row : goal.invariant-loop-row
invariant-loop-row l = l.found.items
    ≡ l.fn.found.items ++ flat_map (row_changes l.side l.index l.names l.knowledge) (take l.row-index l.rows)
