use Rattle.std.proofs.Common.{take}
use Rattle.zoom_trace.specs.Notices.{AreNotices}
use Rattle.zoom_trace.proofs.noticing.notices.Given as goal

abbrev pub invariant-loop-entry : goal.invariant-loop-entry
invariant-loop-entry l = AreNotices l.count (take l.entry-index l.entries) l.noticed.items
