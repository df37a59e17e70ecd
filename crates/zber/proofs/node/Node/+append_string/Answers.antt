use Rattle.zber.proofs.SegmentLemmas.{joined_step}
use Rattle.zber.proofs.node.Node.+append_string.Goals as goal

pub loop-kid-preserved : goal.loop-kid-preserved
loop-kid-preserved t c = joined_step _ _ _ _ _ _ c.loop-kid-test.true c.kid-item.is c.loop-kid.invariant c.in_ok-append_string-in-Cons.ensures
