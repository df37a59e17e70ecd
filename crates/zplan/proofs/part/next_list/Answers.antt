use Rattle.std.proofs.Common.{◌-◌, sym, subst}
use Rattle.zplan.proofs.Lists.{IsGathering, gather_none, gather_more}
use Rattle.zplan.proofs.part.next_list.Goals as goal

pub loop-room-init : goal.loop-room-init
loop-room-init c =
    gather_none c.args.ranges.now c.args.from c.args.step c.new-list.result.items c.requires.wanted c.requires.place c.new-list.ensures.items

pub loop-room-preserved : goal.loop-room-preserved
loop-room-preserved c =
    subst (λ l. IsGathering c.args.ranges.now c.args.from c.args.step l c.in-Some.part.next (c.loop-room.room - c.in-Some.part.range.n)) (sym c.in_ok-push-in-Some.ensures.items)
    (gather_more c.args.ranges.now c.args.from c.args.step c.loop-room.list.items c.loop-room.place c.loop-room.room c.in-Some.part c.loop-room.invariant c.in-Some.ensures.some)
