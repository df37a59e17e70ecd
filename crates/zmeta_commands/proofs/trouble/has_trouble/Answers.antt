use Rattle.std.proofs.Common.{arith, below_more, false}
use Rattle.zmeta_commands.specs.Finished.{IsTroubledAt}
use Rattle.zmeta_commands.proofs.trouble.has_trouble.Goals as goal

pub loop-c-preserved : goal.loop-c-preserved
loop-c-preserved c =
    below_more (λ k. IsTroubledAt c.args.addresses.now k c.args.meta.now false) c.loop-c.c c.loop-c.invariant c.if-is_troubled_at.ensures

pub returns : goal.returns
returns c = λ k lt. c.loop-c.invariant k (omega (arith, lt, c.loop-c-test.false, c.connections-c-end.ensures))
