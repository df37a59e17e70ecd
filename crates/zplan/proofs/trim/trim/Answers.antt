use Rattle.std.proofs.Common.{◌-◌, ◌<◌, ◌≤◌, length, arith, sym, subst}
use Rattle.std.proofs.lemmas.Bool.Decides.{nat_tests}
use Rattle.zplan.proofs.Trims.{IsTrimming, past_at, cut_at}
use Rattle.zplan.proofs.trim.trim.Goals as goal

pub returns-then-skip-first-clause-left : goal.returns-then-skip-first-clause-left
returns-then-skip-first-clause-left c =
    let ok = c.loop-list.list.ok in let a = c.is_empty.ensures in let b = c.loop-list-test.true in
    let some : 0 < length c.loop-list.list.items = grind (arith, nat_tests, ok) in
    (cut_at c.args.list.now.items c.args.k c.loop-list.list.items c.loop-list.skip c.index-first.result.now c.loop-list.invariant some c.index-first.ensures c.if-skip-first.true).left

pub loop-list-preserved : goal.loop-list-preserved
loop-list-preserved c =
    let ok = c.loop-list.list.ok in let a = c.is_empty.ensures in let b = c.loop-list-test.true in
    let some : 0 < length c.loop-list.list.items = grind (arith, nat_tests, ok) in
    let le : c.index-first.result.now.n ≤ c.loop-list.skip = grind (arith, nat_tests) in
    subst (λ l. IsTrimming c.args.list.now.items c.args.k l (c.loop-list.skip - c.index-first.result.now.n)) (sym c.remove.ensures.items)
    (past_at c.args.list.now.items c.args.k c.loop-list.list.items c.loop-list.skip c.index-first.result.now c.loop-list.invariant some c.index-first.ensures le)
