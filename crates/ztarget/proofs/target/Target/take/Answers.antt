use Rattle.ztarget.proofs.Sendable.{others_left, one_taken}
use Rattle.ztarget.proofs.target.Target.take.Goals as goal

pub invariant_of-self : goal.invariant_of-self
invariant_of-self c = (c.self.invariant.0, others_left _ _ c.args.k c.take_out.result c.take_out.ensures c.self.invariant.1, c.self.invariant.2)

pub returns-clause-element : goal.returns-clause-element
returns-clause-element c = one_taken _ _ c.args.k c.take_out.result c.take_out.ensures c.self.invariant.1
