use Rattle.std.proofs.Common.{◌≡◌, ◌++◌, take}
use Rattle.std.specs.List.{filter_map}
use Rattle.zknow_changes.specs.Indexes.{change_of}
use Rattle.zknow_changes.proofs.between.put_records.Given as goal

abbrev pub invariant-loop-record : goal.invariant-loop-record
invariant-loop-record l = l.found.items
    ≡ l.fn.found.items ++ filter_map (change_of l.side l.index l.names l.row) (take l.record-index l.records)
