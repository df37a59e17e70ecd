use Rattle.std.proofs.Common.{◌≡◌, ◌++◌, drop}
use Rattle.std.specs.List.{flat_map}
use Rattle.zknow_json.specs.Holdings.{holding_object}
use Rattle.zknow_json.proofs.holdings.put_each_holding.Given as goal

abbrev pub invariant-loop-holding : goal.invariant-loop-holding
invariant-loop-holding l = l.line ++ flat_map holding_object (drop l.holding-index l.holdings)
    ≡ l.fn.line ++ flat_map holding_object l.holdings
