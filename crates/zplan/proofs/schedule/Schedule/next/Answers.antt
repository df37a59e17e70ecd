use Rattle.std.proofs.Common.{◌≡◌, ◌<◌, false, length, map, refl, subst, sym, ap, ◌∙◌, arith}
use Rattle.zplan.specs.Ranges.{range_of}
use Rattle.zplan.specs.Agenda.{SameAgenda, IsFirst}
use Rattle.zplan.specs.Schedules.{IsDueAt, IsSound, IsCutOf, IsFirstCut, agenda_of, after_cut, has_due}
use Rattle.zplan.proofs.Plans.{due_lt, first_at, pushed_sound, pushed_same, pushed_first, none_first}
use Rattle.zplan.proofs.schedule.Schedule.next.Goals as goal

pub index-requires : goal.index-requires
index-requires c =
    let ok = c.self.inside.entries.ok in
    let lt : c.in-Some.at < length c.self.inside.entries.items =
    due_lt c.self.inside.entries.items c.in-Some.at (subst (λ l. IsDueAt l c.in-Some.at) c.deref.ensures.value c.in-Some.ensures.some) in
    omega (arith, ok, lt)

pub returns-in_ok-ranges_of-in-Some-clause-ok : goal.returns-in_ok-ranges_of-in-Some-clause-ok
returns-in_ok-ranges_of-in-Some-clause-ok c = rw (← c.self.view_is)
    (first_at c.self.inside.entries.items c.self.inside.uncut c.in-Some.at c.index.result.now c.index.ensures c.self.invariant
    (subst (λ l. IsDueAt l c.in-Some.at) c.deref.ensures.value c.in-Some.ensures.some)
    c.in_ok-ranges_of-in-Some.field-0.items (c.in_ok-ranges_of-in-Some.ensures ∙ ap (map range_of) c.deref-in-Some.ensures.value))

pub invariant_of-self-in-Some-2 : goal.invariant_of-self-in-Some-2
invariant_of-self-in-Some-2 c =
    let cut : IsFirstCut c.self.inside.uncut c.in-Some-2.cut = subst (IsCutOf c.self.inside.uncut) c.in-Some-2.is c.in_ok-cut-in-None.ensures in
    subst (λ l. IsSound l (after_cut c.self.inside.uncut c.in-Some-2.cut.place c.in-Some-2.cut.room)) (sym c.in_ok-push-in-Some-2.ensures.items)
    (pushed_sound c.self.inside.entries.items c.self.inside.uncut c.in-Some-2.cut (record { sent = false; list = c.in-Some-2.cut.list }) refl refl cut c.self.invariant)

pub returns-in_ok-push-in-Some-2-clause-same : goal.returns-in_ok-push-in-Some-2-clause-same
returns-in_ok-push-in-Some-2-clause-same c =
    let cut : IsFirstCut c.self.inside.uncut c.in-Some-2.cut = subst (IsCutOf c.self.inside.uncut) c.in-Some-2.is c.in_ok-cut-in-None.ensures in
    rw (← c.self.view_is)
    (subst (λ l. SameAgenda (agenda_of c.self.inside.entries.items c.self.inside.uncut) (agenda_of l (after_cut c.self.inside.uncut c.in-Some-2.cut.place c.in-Some-2.cut.room)))
    (sym c.in_ok-push-in-Some-2.ensures.items)
    (pushed_same c.self.inside.entries.items c.self.inside.uncut c.in-Some-2.cut (record { sent = false; list = c.in-Some-2.cut.list }) refl refl cut))

pub returns-in_ok-push-in-Some-2-clause-ok : goal.returns-in_ok-push-in-Some-2-clause-ok
returns-in_ok-push-in-Some-2-clause-ok c =
    let cut : IsFirstCut c.self.inside.uncut c.in-Some-2.cut = subst (IsCutOf c.self.inside.uncut) c.in-Some-2.is c.in_ok-cut-in-None.ensures in
    let none : has_due c.self.inside.entries.items ≡ false = subst (λ l. has_due l ≡ false) c.deref.ensures.value c.in-None.ensures.none in
    subst (λ l. IsFirst (agenda_of l (after_cut c.self.inside.uncut c.in-Some-2.cut.place c.in-Some-2.cut.room)) c.in_ok-list-in-Some-2.list.items)
    (sym c.in_ok-push-in-Some-2.ensures.items)
    (pushed_first c.self.inside.entries.items c.self.inside.uncut c.in-Some-2.cut (record { sent = false; list = c.in-Some-2.cut.list }) refl refl cut c.self.invariant none
    c.in_ok-list-in-Some-2.list.items (c.in_ok-list-in-Some-2.ensures ∙ ap (map range_of) c.deref-in-Some-2.ensures.value))

pub returns-in-None-2-clause-ok : goal.returns-in-None-2-clause-ok
returns-in-None-2-clause-ok c =
    let none : has_due c.self.inside.entries.items ≡ false = subst (λ l. has_due l ≡ false) c.deref.ensures.value c.in-None.ensures.none in
    rw (← c.self.view_is)
    (none_first c.self.inside.entries.items c.self.inside.uncut none (subst (IsCutOf c.self.inside.uncut) c.in-None-2.is c.in_ok-cut-in-None.ensures))
