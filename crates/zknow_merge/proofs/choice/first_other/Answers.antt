use Rattle.zknow_merge.proofs.ChoiceTheory.{same_more, other_here}
use Rattle.zknow_merge.proofs.choice.first_other.Goals as goal

pub loop-k-preserved : goal.loop-k-preserved
loop-k-preserved c =
    same_more c.args.sources.now c.loop-k.k c.loop-k-test.true c.index-sources-k.result c.index-sources-k.is c.index-sources-0.result c.index-sources-0.is c.loop-k.invariant
    (c.have_same_names.ensures.same c.if-not-have_same_names.false)

pub returns-then-not-have_same_names-clause-some : goal.returns-then-not-have_same_names-clause-some
returns-then-not-have_same_names-clause-some c =
    other_here c.args.sources.now c.loop-k.k c.loop-k-test.true c.index-sources-k.result c.index-sources-k.is c.index-sources-0.result c.index-sources-0.is c.loop-k.invariant
    (c.have_same_names.ensures.others c.if-not-have_same_names.true)
