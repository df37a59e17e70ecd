-- the lines of the records so far, before those of the records that are left
use Rattle.std.proofs.Common.{◌≡◌, ◌++◌}
use Rattle.std.specs.Vec.Iter.{into_iter_items}
use Rattle.zapdu_lines.specs.Lines.{apdu_record_lines}
use Rattle.zapdu_lines.proofs.lines.put_list.Given as goal

abbrev pub invariant-loop-record : goal.invariant-loop-record
invariant-loop-record l = l.text.items ++ apdu_record_lines (into_iter_items l.record-iterator) ≡ l.initial.text.items ++ apdu_record_lines l.fn.records
