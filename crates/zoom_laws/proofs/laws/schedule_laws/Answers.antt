use Rattle.zoom_laws.proofs.ScheduleTheory.Schedules.{asked_law, same_law}
use Rattle.zoom_laws.proofs.laws.schedule_laws.Goals as goal

pub returns : goal.returns
returns c = record {
  asked = asked_law c.orderly_logs.ensures c.accepted_replies.ensures.accepted;
  same = same_law c.orderly_logs.ensures c.accepted_replies.ensures.accepted;
}
