use Rattle.std.proofs.Common.{◌≡◌, ◌++◌, drop}
use Rattle.std.specs.List.{flat_map}
use Rattle.zknow_titles.specs.Lines.{ended}
use Rattle.zknow_titles.specs.Rows.{further_lines}
use Rattle.zknow_titles.proofs.rows.put_each.Given as goal

abbrev pub invariant-loop-record : goal.invariant-loop-record
invariant-loop-record l =
    l.out.items ++ ended (flat_map (further_lines l.extent l.charset l.w) (drop l.record-index l.records))
    ≡ l.fn.out.items ++ ended (flat_map (further_lines l.extent l.charset l.w) l.records)
