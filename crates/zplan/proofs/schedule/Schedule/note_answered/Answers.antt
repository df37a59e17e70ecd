use Rattle.std.proofs.Common.{◌<◌, length, subst, sym, ◌∙◌, arith}
use Rattle.zplan.specs.Schedules.{AreAskableLists, IsWaitingAt}
use Rattle.zplan.proofs.Entries.{listed_at}
use Rattle.zplan.proofs.Plans.{waiting_lt, removed_at, gone_sound, gone_answered, left_sound, left_answered}
use Rattle.zplan.proofs.schedule.Schedule.note_answered.Goals as goal

pub place_of-requires : goal.place_of-requires
place_of-requires c = (c.self.inside.uncut.three, subst (AreAskableLists c.self.inside.uncut.three) (sym c.deref.ensures.value) c.self.invariant.listed)

pub index_mut-requires : goal.index_mut-requires
index_mut-requires c =
    let ok = c.self.inside.entries.ok in
    let lt : c.in-Some.at < length c.self.inside.entries.items =
    waiting_lt c.args.first c.self.inside.entries.items c.in-Some.at (subst (λ l. IsWaitingAt c.args.first l c.in-Some.at) c.deref.ensures.value c.in-Some.ensures.some) in
    omega (arith, ok, lt)

pub leave-requires : goal.leave-requires
leave-requires c =
    listed_at c.self.inside.uncut.three c.self.inside.entries.items c.in-Some.at c.index_mut.result.now c.self.invariant.listed
    (waiting_lt c.args.first c.self.inside.entries.items c.in-Some.at (subst (λ l. IsWaitingAt c.args.first l c.in-Some.at) c.deref.ensures.value c.in-Some.ensures.some))
    c.index_mut.ensures.value

pub remove-requires : goal.remove-requires
remove-requires c =
    let ok = c.self.inside.entries.ok in
    let lt : c.in-Some.at < length c.self.inside.entries.items =
    waiting_lt c.args.first c.self.inside.entries.items c.in-Some.at (subst (λ l. IsWaitingAt c.args.first l c.in-Some.at) c.deref.ensures.value c.in-Some.ensures.some) in
    omega (arith, ok, lt)

pub invariant_of-self : goal.invariant_of-self
invariant_of-self c =
    let w = subst (λ l. IsWaitingAt c.args.first l c.in-Some.at) c.deref.ensures.value c.in-Some.ensures.some in
    gone_sound c.self.inside.entries.items c.self.inside.uncut c.args.first c.in-Some.at c.index_mut.result.now c.index_mut.ensures.value c.self.invariant w
    c.remove.new.self.items (c.remove.ensures.items ∙ removed_at c.self.inside.entries.items c.in-Some.at c.leave.new.entry (waiting_lt c.args.first c.self.inside.entries.items c.in-Some.at w))

pub returns-then-not-leave : goal.returns-then-not-leave
returns-then-not-leave c =
    let w = subst (λ l. IsWaitingAt c.args.first l c.in-Some.at) c.deref.ensures.value c.in-Some.ensures.some in
    rw (← c.self.view_is)
    (gone_answered c.self.inside.entries.items c.self.inside.uncut c.args.first c.in-Some.at c.index_mut.result.now c.index_mut.ensures.value c.self.invariant w
    c.args.records c.remove.new.self.items
    (c.remove.ensures.items ∙ removed_at c.self.inside.entries.items c.in-Some.at c.leave.new.entry (waiting_lt c.args.first c.self.inside.entries.items c.in-Some.at w))
    (sym c.leave.ensures.left ∙ c.if-not-leave.true))

pub invariant_of-self-else-not-leave : goal.invariant_of-self-else-not-leave
invariant_of-self-else-not-leave c =
    let w = subst (λ l. IsWaitingAt c.args.first l c.in-Some.at) c.deref.ensures.value c.in-Some.ensures.some in
    left_sound c.self.inside.entries.items c.self.inside.uncut c.args.first c.in-Some.at c.index_mut.result.now c.index_mut.ensures.value c.self.invariant w
    c.args.records c.leave.new.entry (c.leave.ensures.due c.if-not-leave.false) (c.leave.ensures.rest c.if-not-leave.false) (c.leave.ensures.listed c.if-not-leave.false)

pub returns-else-not-leave : goal.returns-else-not-leave
returns-else-not-leave c =
    let w = subst (λ l. IsWaitingAt c.args.first l c.in-Some.at) c.deref.ensures.value c.in-Some.ensures.some in
    rw (← c.self.view_is)
    (left_answered c.self.inside.entries.items c.self.inside.uncut c.args.first c.in-Some.at c.index_mut.result.now c.index_mut.ensures.value c.self.invariant w
    c.args.records c.leave.new.entry (c.leave.ensures.due c.if-not-leave.false) (c.leave.ensures.rest c.if-not-leave.false) (c.leave.ensures.listed c.if-not-leave.false)
    (sym c.leave.ensures.left ∙ c.if-not-leave.false))
