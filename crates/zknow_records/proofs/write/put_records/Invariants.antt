use Rattle.std.proofs.Common.{◌≡◌, ◌++◌, take}
use Rattle.std.specs.List.{flat_map}
use Rattle.zknow_records.specs.Records.{referenced, record_octets}
use Rattle.zknow_records.proofs.write.put_records.Given as goal

abbrev pub invariant-loop-record : goal.invariant-loop-record
invariant-loop-record l = l.out.items ≡ l.fn.out.items ++ flat_map record_octets (referenced (take l.record-index l.taken))
