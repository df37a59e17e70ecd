use Rattle.std.proofs.Common.{◌∙◌, ◌++◌, ◌+◌, ap, sym, take, List}
use Rattle.std.specs.Option.{option_to_list}
use Rattle.zapdu.specs.declared.productions.record.Record.{Record}
use Rattle.zknow.proofs.TableTheory.AtKeys.{filter_map_flat, flat_written}
use Rattle.zknow_changes.specs.declared.between.Change.{Change}
use Rattle.zknow_changes.specs.Indexes.{change_of}
use Rattle.zknow_changes.proofs.between.put_records.Goals as goal

pub loop-record-preserved : goal.loop-record-preserved
loop-record-preserved c =
    let f = change_of c.args.side c.args.index.now c.args.names.now c.args.row.now in
    let told : Record → List Change = λ r. option_to_list (f r) in
    let records = c.args.records.now in
    let i = c.loop-record.record-index in
    let start = c.args.found.now.items in
    flat_written told records i c.record-item.result start c.loop-record.found.items c.put_change.new.found.items
    c.loop-record-test.true
    (c.loop-record.invariant ∙ ap (λ z. start ++ z) (filter_map_flat f (take i records)))
    (c.in_ok-put_change.ensures ∙ ap (λ r. c.loop-record.found.items ++ told r) c.record-item.is)
    ∙ ap (λ z. start ++ z) (sym (filter_map_flat f (take (i + 1) records)))
