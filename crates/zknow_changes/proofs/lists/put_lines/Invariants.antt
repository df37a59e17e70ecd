use Rattle.std.proofs.Common.{◌≡◌, ◌++◌, take}
use Rattle.std.specs.List.{flat_map}
use Rattle.zknow_changes.specs.Lists.{change_text}
use Rattle.zknow_changes.proofs.lists.put_lines.Given as goal

abbrev pub invariant-loop-change : goal.invariant-loop-change
invariant-loop-change l = l.out.items
    ≡ l.fn.out.items ++ flat_map (change_text l.earlier l.later l.hex) (take l.change-index l.changes)
