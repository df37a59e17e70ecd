use Rattle.std.proofs.Common.{◌≡◌, ◌++◌, drop, string_bytes}
use Rattle.std.specs.List.{flat_map}
use Rattle.zknow_json.specs.Changes.{change_line}
use Rattle.zknow_json.proofs.changes.put_changes.Given as goal

abbrev pub invariant-loop-change : goal.invariant-loop-change
invariant-loop-change l = string_bytes l.out ++ flat_map (change_line l.earlier l.later) (drop l.change-index l.changes)
    ≡ string_bytes l.fn.out ++ flat_map (change_line l.earlier l.later) l.changes
