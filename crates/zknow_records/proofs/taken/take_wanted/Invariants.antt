use Rattle.std.proofs.Common.{◌≡◌, ◌++◌, take}
use Rattle.std.specs.Prelude.{filter}
use Rattle.std.specs.Option.{option_copied}
use Rattle.zknow_records.specs.Records.{is_wanted, referenced}
use Rattle.zknow_records.proofs.taken.take_wanted.Given as goal

abbrev pub invariant-loop-record : goal.invariant-loop-record
invariant-loop-record l =
    referenced l.found.items
    ≡ referenced l.fn.found.items ++ filter (is_wanted (option_copied l.asked)) (take l.record-index l.records)
