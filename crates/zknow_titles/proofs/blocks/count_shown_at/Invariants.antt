use Rattle.std.proofs.Common.{◌≡◌, ◌≤◌, take}
use Rattle.std.specs.List.{count_by}
use Rattle.zknow_titles.specs.Blocks.{is_shown_at}
use Rattle.zknow_titles.proofs.blocks.count_shown_at.Given as goal

abbrev pub invariant-loop-position : goal.invariant-loop-position
invariant-loop-position l = record {
  counted : l.count ≡ count_by (is_shown_at l.knowledge l.key.target l.key.set) (take l.position-index l.positions);
  within : l.count ≤ l.position-index;
}
