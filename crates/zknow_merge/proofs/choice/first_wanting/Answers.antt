use Rattle.zknow_merge.proofs.ChoiceTheory.{wanting_here, settled_more}
use Rattle.zknow_merge.proofs.choice.first_wanting.Goals as goal

pub loop-k-preserved : goal.loop-k-preserved
loop-k-preserved c =
    settled_more c.args.sources.now c.loop-k.k c.loop-k-test.true c.index-sources-k.result c.index-sources-k.is c.loop-k.invariant
    (λ h. let a = c.is_wanting.ensures.1 h in let b = c.if-is_wanting.false in absurd cc)

pub returns-then-is_wanting-clause-some : goal.returns-then-is_wanting-clause-some
returns-then-is_wanting-clause-some c =
    wanting_here c.args.sources.now c.loop-k.k c.loop-k-test.true c.index-sources-k.result c.index-sources-k.is (c.is_wanting.ensures.0 c.if-is_wanting.true)
