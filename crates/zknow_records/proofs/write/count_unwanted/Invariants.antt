use Rattle.std.proofs.Common.{◌≡◌, ◌≤◌, take}
use Rattle.std.specs.List.{count_by}
use Rattle.std.specs.Option.{option_copied}
use Rattle.zknow_records.specs.Records.{is_unwanted}
use Rattle.zknow_records.proofs.write.count_unwanted.Given as goal

abbrev pub invariant-loop-record : goal.invariant-loop-record
invariant-loop-record l = record {
  counted : l.count ≡ count_by (λ r. is_unwanted (option_copied l.asked) r.now) (take l.record-index l.taken);
  within : l.count ≤ l.record-index;
}
