use Rattle.std.proofs.Common.{◌≡◌, ◌+◌, suc, take, arith, ap, subst, ◌∙◌}
use Rattle.zplan.proofs.Entries.{AllSent, due_here, sent_more, sent_has, take_all}
use Rattle.zplan.proofs.entry.first_due.Goals as goal

pub returns-then-not-entries-at-clause-some : goal.returns-then-not-entries-at-clause-some
returns-then-not-entries-at-clause-some c =
    due_here c.args.entries.now c.loop-at.at c.index-entries-at.result c.loop-at.invariant c.loop-at-test.true c.index-entries-at.is
    (ap (λ z. z.sent) c.index-entries-at.is ∙ c.if-not-entries-at.true)

pub loop-at-preserved : goal.loop-at-preserved
loop-at-preserved c =
    subst (λ k. AllSent (take k c.args.entries.now)) (let e : suc c.loop-at.at ≡ c.loop-at.at + 1 = omega arith in e)
    (sent_more c.args.entries.now c.loop-at.at c.index-entries-at.result c.loop-at.invariant c.loop-at-test.true c.index-entries-at.is
    (ap (λ z. z.sent) c.index-entries-at.is ∙ c.if-not-entries-at.false))

pub returns-clause-none : goal.returns-clause-none
returns-clause-none c = sent_has c.args.entries.now (subst AllSent (take_all c.args.entries.now c.loop-at.at c.loop-at-test.false) c.loop-at.invariant)
