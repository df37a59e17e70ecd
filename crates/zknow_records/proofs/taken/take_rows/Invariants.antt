use Rattle.std.proofs.Common.{◌≡◌, take}
use Rattle.std.specs.List.{flat_map}
use Rattle.std.specs.Option.{option_copied}
use Rattle.zknow_records.specs.Records.{taken, row_records, referenced}
use Rattle.zknow_records.proofs.taken.take_rows.Given as goal

abbrev pub invariant-loop-row : goal.invariant-loop-row
invariant-loop-row l =
    referenced l.found.items
    ≡ flat_map (λ k. taken (option_copied l.asked) l.conflicts (row_records l.knowledge k)) (take l.row-index l.rows)
