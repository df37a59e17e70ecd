use Rattle.std.proofs.Common.{◌≡◌, ◌+◌, take}
use Rattle.std.specs.List.{count_by}
use Rattle.zknow.specs.declared.tables.keys.SetKey.{SetKey}
use Rattle.zknow_titles.specs.Blocks.{filled_at}
use Rattle.zknow_titles.proofs.FilledTheory.{is_filled}
use Rattle.zknow_titles.proofs.filled.count_filled.Given as goal

-- the rows so far were counted
abbrev pub invariant-loop-row : goal.invariant-loop-row
invariant-loop-row l =
    (b : SetKey) → filled_at l.table.entries b
    ≡ filled_at l.fn.table.entries b + count_by (is_filled l.knowledge b) (take l.row-index l.row-items)
