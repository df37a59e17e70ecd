use Rattle.std.proofs.Common.{◌≡◌, ◌≤◌, take}
use Rattle.std.specs.List.{count_by}
use Rattle.zknow_records.specs.Records.{is_other}
use Rattle.zknow_records.proofs.write.count_others.Given as goal

abbrev pub invariant-loop-record : goal.invariant-loop-record
invariant-loop-record l = record {
  counted : l.count ≡ count_by (λ r. is_other r.now) (take l.record-index l.taken);
  within : l.count ≤ l.record-index;
}
