use Rattle.std.proofs.Common.{◌≡◌, ◌≤◌, take}
use Rattle.std.specs.List.{count_by}
use Rattle.zknow_records.specs.Records.{is_conflict, row_records}
use Rattle.zknow_records.proofs.taken.count_conflicts.Given as goal

abbrev pub invariant-loop-row : goal.invariant-loop-row
invariant-loop-row l = record {
  counted : l.count ≡ count_by (λ k. is_conflict (row_records l.knowledge k)) (take l.row-index l.rows);
  within : l.count ≤ l.row-index;
}
