use Rattle.ztarget.specs.Levels.{IsShowableRecord}
use Rattle.ztarget.specs.Searching.{kept_entry}
use Rattle.ztarget.specs.Showing.{shown_record}
use Rattle.ztarget.proofs.ReplyElements.{shown_shows}
use Rattle.ztarget.proofs.Sendable.{part_known_ok}
use Rattle.ztarget.proofs.record.shown_record.Goals as goal

pub returns-clause-showable : goal.returns-clause-showable
returns-clause-showable c =
    let f = kept_entry c.args.database.now c.args.entry.now in
    part_known_ok (λ s. s.0) IsShowableRecord (shown_record c.args.size c.args.asked.now f) c.record_within_size.result
    (rw c.in_ok-record.ensures.value at c.record_within_size.ensures.value)
    (shown_shows c.args.size c.args.asked.now f c.in_syntax.ensures.oid)
