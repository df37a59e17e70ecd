use Rattle.std.proofs.Common.{◌≡◌, ◌++◌, drop, string_bytes}
use Rattle.std.specs.List.{flat_map}
use Rattle.zknow_json.specs.Sets.{count_line}
use Rattle.zknow_json.proofs.sets.put_counts.Given as goal

abbrev pub invariant-loop-count : goal.invariant-loop-count
invariant-loop-count l = string_bytes l.out ++ flat_map (count_line l.names l.key) (drop l.count-index l.counts)
    ≡ string_bytes l.fn.out ++ flat_map (count_line l.names l.key) l.counts
