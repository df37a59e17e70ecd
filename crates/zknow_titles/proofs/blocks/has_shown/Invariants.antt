use Rattle.std.proofs.Common.{◌≡◌, drop}
use Rattle.std.specs.List.{list_any}
use Rattle.zknow_titles.specs.Entries.{is_shown}
use Rattle.zknow_titles.proofs.blocks.has_shown.Given as goal

abbrev pub invariant-loop-record : goal.invariant-loop-record
invariant-loop-record l = list_any is_shown (drop l.record-index l.records) ≡ list_any is_shown l.records
