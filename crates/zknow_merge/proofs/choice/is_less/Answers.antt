use Rattle.std.proofs.Common.{subst}
use Rattle.zknow_merge.specs.Sources.{IsHeadOption}
use Rattle.zknow_merge.proofs.HeadTheory.{not_both}
use Rattle.zknow_merge.proofs.choice.is_less.Goals as goal

pub returns-in-Some-Some-clause-less : goal.returns-in-Some-Some-clause-less
returns-in-Some-Some-clause-less c = λ below f g hf hg back.
    let mine = subst (λ o. IsHeadOption o f) c.in-Some-Some.is-0 hf.1 in
    let theirs = subst (λ o. IsHeadOption o g) c.in-Some-Some.is-1 hg.1 in
    not_both f g ((c.is_below.ensures f g mine.key theirs.key).0 below) back
