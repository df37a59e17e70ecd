use Rattle.std.proofs.Common.{◌<◌, true, length, refl, subst, arith}
use Rattle.zplan.specs.Schedules.{IsDueAt}
use Rattle.zplan.proofs.Plans.{due_lt, sound_sent, sent_at}
use Rattle.zplan.proofs.schedule.Schedule.note_sent.Goals as goal

pub index_mut-requires : goal.index_mut-requires
index_mut-requires c =
    let ok = c.self.inside.entries.ok in
    let lt : c.in-Some.at < length c.self.inside.entries.items =
    due_lt c.self.inside.entries.items c.in-Some.at (subst (λ l. IsDueAt l c.in-Some.at) c.deref.ensures.value c.in-Some.ensures.some) in
    omega (arith, ok, lt)

pub invariant_of-self : goal.invariant_of-self
invariant_of-self c =
    sound_sent c.self.inside.entries.items c.self.inside.uncut c.in-Some.at c.index_mut.result.now c.index_mut.ensures.value (record { sent = true; list = c.index_mut.result.now.list })
    c.self.invariant (subst (λ l. IsDueAt l c.in-Some.at) c.deref.ensures.value c.in-Some.ensures.some) refl refl

pub returns-in-Some : goal.returns-in-Some
returns-in-Some c = rw (← c.self.view_is)
    (sent_at c.self.inside.entries.items c.self.inside.uncut c.in-Some.at c.index_mut.result.now c.index_mut.ensures.value (record { sent = true; list = c.index_mut.result.now.list })
    c.self.invariant (subst (λ l. IsDueAt l c.in-Some.at) c.deref.ensures.value c.in-Some.ensures.some) refl refl)
