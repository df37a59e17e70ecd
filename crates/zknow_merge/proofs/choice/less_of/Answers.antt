use Rattle.std.proofs.Common.{subst}
use Rattle.zknow_merge.specs.Sources.{IsLeastOf}
use Rattle.zknow_merge.proofs.ChoiceTheory.{least_first, least_new, least_old, least_at}
use Rattle.zknow_merge.proofs.choice.less_of.Goals as goal

pub returns-in-None-clause-least : goal.returns-in-None-clause-least
returns-in-None-clause-least c = λ headed found waits.
    least_first c.args.sources.now c.args.k c.requires.among waits (subst (IsLeastOf c.args.sources.now c.args.k) c.in-None.is found)

pub returns-then-is_less-clause-least : goal.returns-then-is_less-clause-least
returns-then-is_less-clause-least c = λ headed found waits.
    let sources = c.args.sources.now in
    let k = c.args.k in
    let l = c.in-Some.least in
    let old = subst (IsLeastOf sources k) c.in-Some.is found in
    least_new sources k c.requires.among l old waits (λ d. headed l d old.among (old.waits d))
    (least_at sources k l c.requires.among old.among c.index-sources-k.result c.index-sources-least.result c.index-sources-k.is c.index-sources-least.is (c.is_less.ensures.less c.if-is_less.true))

pub returns-else-is_less-clause-least : goal.returns-else-is_less-clause-least
returns-else-is_less-clause-least c = λ headed found waits.
    let sources = c.args.sources.now in
    let k = c.args.k in
    let l = c.in-Some.least in
    let old = subst (IsLeastOf sources k) c.in-Some.is found in
    least_old sources k c.requires.among l old
    (least_at sources l k old.among c.requires.among c.index-sources-least.result c.index-sources-k.result c.index-sources-least.is c.index-sources-k.is (c.is_less.ensures.not_less c.if-is_less.false))
