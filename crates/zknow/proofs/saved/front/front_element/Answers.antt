use Rattle.std.proofs.Common.{subst}
use Rattle.zknow.specs.Saved.Fronts.{IsFrontOf}
use Rattle.zknow.proofs.SavedTheory.FrontElements.{from_fault, from_longest}
use Rattle.zknow.proofs.saved.front.front_element.Goals as goal

pub returns-in-Fault : goal.returns-in-Fault
returns-in-Fault c =
    from_fault c.args.octets.now c.split_at.result.0.now c.min.result c.split_at.ensures.front
    (subst (IsFrontOf c.split_at.result.0.now) c.in-Fault.is c.in_ok-node.ensures)

pub returns-then-size-limit : goal.returns-then-size-limit
returns-then-size-limit c =
    from_longest c.args.octets.now c.split_at.result.0.now c.min.result c.split_at.ensures.front c.min-limit.result c.loop-node.size c.min-limit.ensures c.min.ensures c.if-size-limit.true
    (subst (IsFrontOf c.split_at.result.0.now) c.in-Unfinished.is c.in_ok-node.ensures)
