use Rattle.std.proofs.Common.{List, [], pos}
use Rattle.std.specs.Option.{option_copied}
use Rattle.zapdu.specs.declared.productions.record.Record.{Record}
use Rattle.zknow.specs.declared.tables.keys.RowKey.{RowKey}
use Rattle.zknow.proofs.TableTheory.AtKeys.{flat_written}
use Rattle.zknow_records.specs.Records.{taken, row_records, referenced}
use Rattle.zknow_records.proofs.taken.take_rows.Goals as goal

pub loop-row-preserved : goal.loop-row-preserved
loop-row-preserved c =
    let taken_at : RowKey → List Record =
    λ k. taken (option_copied c.args.asked) c.args.conflicts (row_records c.args.knowledge.now k) in
    let none : RowKey = record { position = pos 0; target = 0; set = 0 } in
    flat_written taken_at c.args.rows.now c.loop-row.row-index none [] (referenced c.loop-row.found.items)
    (referenced c.take_row.new.found.items) c.loop-row-test.true c.loop-row.invariant c.in_ok-take_row.ensures
