use Rattle.std.proofs.Common.{◌≡◌, ◌++◌, drop}
use Rattle.std.specs.List.{flat_map}
use Rattle.zknow_json.specs.Holdings.{volume_object}
use Rattle.zknow_json.proofs.holdings.put_each_volume.Given as goal

abbrev pub invariant-loop-volume : goal.invariant-loop-volume
invariant-loop-volume l = l.line ++ flat_map volume_object (drop l.volume-index l.volumes)
    ≡ l.fn.line ++ flat_map volume_object l.volumes
