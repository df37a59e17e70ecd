use Rattle.std.proofs.Common.{◌≡◌, ◌++◌, drop}
use Rattle.std.specs.List.{flat_map}
use Rattle.zknow_json.specs.Records.{record_object}
use Rattle.zknow_json.proofs.records.put_objects.Given as goal

abbrev pub invariant-loop-record : goal.invariant-loop-record
invariant-loop-record l = l.line ++ flat_map (record_object l.charset) (drop l.record-index l.records)
    ≡ l.fn.line ++ flat_map (record_object l.charset) l.records
