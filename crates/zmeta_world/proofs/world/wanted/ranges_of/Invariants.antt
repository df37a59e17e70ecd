use Rattle.std.proofs.Common.{◌≡◌, ◌+◌, ◌≤◌, ◌++◌, length}
use Rattle.std.specs.List.{slice_split}
use Rattle.std.specs.Option.{option_map, option_map_or}
use Rattle.zmeta_world.specs.World.{pieces}
use Rattle.zmeta_world.specs.WorldWants.{ranges_in, most_wanted, is_comma}
use Rattle.zmeta_world.proofs.world.wanted.ranges_of.Given as goal

abbrev pub invariant-loop-rest : goal.invariant-loop-rest
invariant-loop-rest l =
    (option_map (λ rs. l.ranges.items ++ rs) (ranges_in l.low l.room (pieces 44 (option_map (λ r. r.now) l.rest))) ≡ ranges_in 1 most_wanted (slice_split is_comma l.text)) × (l.room ≤ most_wanted) × (l.low ≤ 2147483649)

abbrev pub decreases-loop-rest : goal.decreases-loop-rest
decreases-loop-rest l = option_map_or (λ r. length r.now + 1) l.rest 0
