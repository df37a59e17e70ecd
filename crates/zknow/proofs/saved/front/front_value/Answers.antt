use Rattle.std.proofs.Common.{subst}
use Rattle.zber.proofs.Runs.{seen_tag}
use Rattle.zknow.specs.Saved.Fronts.{IsFrontElement}
use Rattle.zknow.proofs.SavedTheory.FrontElements.{no_front, not_tagged, no_meaning}
use Rattle.zknow.proofs.saved.front.front_value.Goals as goal

pub returns-in_default : goal.returns-in_default
returns-in_default g c = no_front g.T.Tagged.place c.args.octets.now (subst (IsFrontElement c.args.octets.now) c.in_default.is c.in_ok-node.ensures)

pub returns-then-not-has : goal.returns-then-not-has
returns-then-not-has g c =
    not_tagged g.T.Tagged.place c.args.octets.now c.in-Some.node (subst (IsFrontElement c.args.octets.now) c.in-Some.is c.in_ok-node.ensures)
    c.node.inside.tag c.has.result (seen_tag c.node.inside c.in-Some.node c.node.view_is) c.has.ensures c.if-not-has.true

pub returns-in-Err-Misfit : goal.returns-in-Err-Misfit
returns-in-Err-Misfit g c =
    no_meaning g.T.Tagged.place c.args.octets.now c.in-Some.node (subst (IsFrontElement c.args.octets.now) c.in-Some.is c.in_ok-node.ensures)
    (rw c.in-Err-Misfit.field-0-is at c.in-Err-Misfit.ensures)
