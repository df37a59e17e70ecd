use Rattle.std.proofs.Common.{◌≡◌, ◌≤◌, take}
use Rattle.zknow_changes.specs.Parts.{count_part}
use Rattle.zknow_changes.proofs.parts.count_part.Given as goal

abbrev pub invariant-loop-change : goal.invariant-loop-change
invariant-loop-change l = record {
  counted : l.count ≡ count_part l.kind (take l.change-index l.changes);
  within : l.count ≤ l.change-index;
}
