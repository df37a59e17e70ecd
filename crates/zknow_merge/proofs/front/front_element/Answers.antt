use Rattle.std.proofs.Common.{subst}
use Rattle.zknow.proofs.SavedTheory.FrontElements.{from_longest}
use Rattle.zknow_merge.specs.Fronts.{IsFrontOf}
use Rattle.zknow_merge.proofs.FrontTheory.{whole_of_window, fault_of_window}
use Rattle.zknow_merge.proofs.front.front_element.Goals as goal

pub returns-in-Whole : goal.returns-in-Whole
returns-in-Whole c =
    whole_of_window c.args.octets.now c.split_at.result.0.now c.min.result c.split_at.ensures.front c.in-Whole.node
    (subst (IsFrontOf c.split_at.result.0.now) c.in-Whole.is c.in_ok-node.ensures)

pub returns-in-Fault : goal.returns-in-Fault
returns-in-Fault c =
    fault_of_window c.args.octets.now c.split_at.result.0.now c.min.result c.split_at.ensures.front
    (subst (IsFrontOf c.split_at.result.0.now) c.in-Fault.is c.in_ok-node.ensures)

pub all_unfinished-requires : goal.all_unfinished-requires
all_unfinished-requires c =
    from_longest c.args.octets.now c.split_at.result.0.now c.min.result c.split_at.ensures.front c.min-limit.result c.loop-node.size c.min-limit.ensures c.min.ensures c.if-size-limit.true
    (subst (IsFrontOf c.split_at.result.0.now) c.in-Unfinished.is c.in_ok-node.ensures)
