use Rattle.std.proofs.Common.{sym}
use Rattle.zmeta_world.proofs.InMemoryTargets.{passed_over, found_here}
use Rattle.zmeta_world.proofs.in_memory.target_named.Goals as goal

pub loop-target-preserved : goal.loop-target-preserved
loop-target-preserved c =
    passed_over c.args.name.now c.args.targets.now c.loop-target.target-index c.target-item.result
    c.loop-target-test.true c.target-item.is (sym c.if-has_name.ensures) c.loop-target.invariant

pub returns-then-has_name : goal.returns-then-has_name
returns-then-has_name c =
    found_here c.args.name.now c.args.targets.now c.loop-target.target-index c.target-item.result
    c.loop-target-test.true c.target-item.is (sym c.if-has_name.ensures) c.loop-target.invariant
