use Rattle.std.proofs.Common.{subst, sym}
use Rattle.zplan.specs.Schedules.{AreAskableLists, IsWaitingAt}
use Rattle.zplan.proofs.Entries.{waiting_there}
use Rattle.zplan.proofs.schedule.Schedule.is_waiting.Goals as goal

pub place_of-requires : goal.place_of-requires
place_of-requires c = (c.self.inside.uncut.three, subst (AreAskableLists c.self.inside.uncut.three) (sym c.deref.ensures.value) c.self.invariant.listed)

pub returns-in-Some-clause-some : goal.returns-in-Some-clause-some
returns-in-Some-clause-some c = rw (← c.self.view_is) (λ _.
    waiting_there c.args.first c.self.inside.entries.items c.in-Some._at
    (subst (λ l. IsWaitingAt c.args.first l c.in-Some._at) c.deref.ensures.value c.in-Some.ensures.some))
