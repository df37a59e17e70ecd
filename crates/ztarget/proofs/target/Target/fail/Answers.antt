use Rattle.ztarget.proofs.Sendable.{put_last}
use Rattle.ztarget.proofs.target.Target.fail.Goals as goal

pub invariant_of-self-2 : goal.invariant_of-self-2
invariant_of-self-2 c = (c.self.invariant.0, put_last _ _ _ c.in_ok-push_back.ensures.items c.self.invariant.1 c.in_ok-response.ensures.element, c.self.invariant.2)
