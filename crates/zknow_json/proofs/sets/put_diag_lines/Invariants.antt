use Rattle.std.proofs.Common.{◌≡◌, ◌++◌, drop, string_bytes}
use Rattle.std.specs.List.{flat_map}
use Rattle.zknow.specs.Known.{referenced_pairs}
use Rattle.zknow_json.specs.Sets.{diag_line}
use Rattle.zknow_json.proofs.sets.put_diag_lines.Given as goal

abbrev pub invariant-loop-found : goal.invariant-loop-found
invariant-loop-found l = string_bytes l.out
    ++ flat_map (diag_line l.names l.key) (referenced_pairs (drop l.found-index l.diags))
    ≡ string_bytes l.fn.out ++ flat_map (diag_line l.names l.key) (referenced_pairs l.diags)
