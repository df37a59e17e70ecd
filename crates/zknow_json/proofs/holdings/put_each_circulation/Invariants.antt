use Rattle.std.proofs.Common.{◌≡◌, ◌++◌, drop}
use Rattle.std.specs.List.{flat_map}
use Rattle.zknow_json.specs.Holdings.{circulation_object}
use Rattle.zknow_json.proofs.holdings.put_each_circulation.Given as goal

abbrev pub invariant-loop-item : goal.invariant-loop-item
invariant-loop-item l = l.line ++ flat_map circulation_object (drop l.item-index l.items)
    ≡ l.fn.line ++ flat_map circulation_object l.items
