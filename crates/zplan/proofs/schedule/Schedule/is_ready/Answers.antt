use Rattle.std.proofs.Common.{subst, sym}
use Rattle.zplan.specs.Schedules.{IsDueAt}
use Rattle.zplan.proofs.Entries.{due_there}
use Rattle.zplan.proofs.schedule.Schedule.is_ready.Goals as goal

pub returns-in-Some : goal.returns-in-Some
returns-in-Some c = rw (← c.self.view_is) (
    sym (due_there c.self.inside.entries.items c.in-Some._first
    (subst (λ l. IsDueAt l c.in-Some._first) c.deref.ensures.value c.in-Some.ensures.some)))
