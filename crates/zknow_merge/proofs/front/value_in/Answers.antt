use Rattle.std.proofs.Common.{◌++◌}
use Rattle.zber.proofs.Runs.{seen_tag}
use Rattle.zknow.proofs.SavedTheory.FrontElements.{not_tagged, no_meaning}
use Rattle.zknow_merge.proofs.FrontTheory.{front_stays}
use Rattle.zknow_merge.proofs.front.value_in.Goals as goal

pub returns-then-not-has : goal.returns-then-not-has
returns-then-not-has g c = λ octets front more.
    not_tagged g.T.Tagged.place (octets ++ more) c.args.node.now (front_stays octets more c.args.node.now front)
    c.node.inside.tag c.has.result (seen_tag c.node.inside c.args.node.now c.node.view_is) c.has.ensures c.if-not-has.true

pub returns-in-Err-Misfit : goal.returns-in-Err-Misfit
returns-in-Err-Misfit g c = λ octets front more.
    no_meaning g.T.Tagged.place (octets ++ more) c.args.node.now (front_stays octets more c.args.node.now front)
    (rw c.in-Err-Misfit.field-0-is at c.in-Err-Misfit.ensures)
