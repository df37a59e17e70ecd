use Rattle.std.proofs.Common.{take, ◌+◌}
use Rattle.zoom_trace.proofs.Fed.{take_next}
use Rattle.zoom_trace.proofs.Noting.{more_noticed}
use Rattle.zoom_trace.proofs.noticing.notices.Goals as goal

pub loop-entry-preserved : goal.loop-entry-preserved
loop-entry-preserved c =
    let entries = c.args.entries.now in
    let index = c.loop-entry.entry-index in
    let e = c.entry-item.result in
    more_noticed c.args.count (take index entries) (take (index + 1) entries) e c.loop-entry.noticed.items
    c.note.new.noticed.items (take_next entries index e c.loop-entry-test.true c.entry-item.is)
    c.loop-entry.invariant c.note.ensures
