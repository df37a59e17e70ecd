use Rattle.zber.proofs.ElementSizes.{on_none}
use Rattle.zber.proofs.SegmentLemmas.{one, none_by_tag, none_inside, no_string, segments_step}
use Rattle.zber.proofs.node.Node.+string_room.Goals as goal

pub returns-then-not-is_segment-clause-none : goal.returns-then-not-is_segment-clause-none
returns-then-not-is_segment-clause-none t c =
    no_string _ _ _ _ _ _ c.self.view_is c.in-Cons.is c.deref-kid-items.ensures.value c.loop-kid-test.true c.kid-item.is (none_by_tag _ _ _ c.kid.view_is c.is_segment.ensures c.if-not-is_segment.true)

pub returns-in_err-string_room-in-Cons-clause-none : goal.returns-in_err-string_room-in-Cons-clause-none
returns-in_err-string_room-in-Cons-clause-none t c =
    on_none _ _ (no_string _ _ _ _ _ _ c.self.view_is c.in-Cons.is c.deref-kid-items.ensures.value c.loop-kid-test.true c.kid-item.is (none_inside c.kid-item.result c.in_err-string_room-in-Cons.ensures.none))

pub loop-kid-preserved : goal.loop-kid-preserved
loop-kid-preserved t c =
    segments_step _ _ _ c.loop-kid-test.true c.kid-item.is c.loop-kid.invariant (one _ _ _ c.kid.view_is c.is_segment.ensures c.if-not-is_segment.false c.in_ok-string_room-in-Cons.ensures.some)
