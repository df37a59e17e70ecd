use Rattle.ztarget.proofs.Sendable.{put_last}
use Rattle.ztarget.proofs.target.Target.keep.Goals as goal

pub invariant_of-self-in-Ok : goal.invariant_of-self-in-Ok
invariant_of-self-in-Ok c = (
  c.self.invariant.0,
  put_last _ _ _ c.in_ok-push_back.ensures.items c.self.invariant.1 c.requires.element,
  c.in-Ok.ensures.stand c.self.inside.databases.items c.self.invariant.2 (rw (← c.self.view_is) at c.requires.stand),
)
