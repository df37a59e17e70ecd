use Rattle.zplan.proofs.Lists.{IsGathering}
use Rattle.zplan.proofs.part.next_list.Given as goal

abbrev pub invariant-loop-room : goal.invariant-loop-room
invariant-loop-room l = IsGathering l.fn.ranges l.fn.from l.fn.step l.list.items l.place l.room

abbrev pub decreases-loop-room : goal.decreases-loop-room
decreases-loop-room l = l.room
