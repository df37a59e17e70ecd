use Rattle.std.proofs.Common.{◌≡◌, ◌+◌, suc, true, take, arith, subst, sym, ◌∙◌}
use Rattle.std.proofs.lemmas.Bool.Decides.{nat_tests}
use Rattle.zplan.specs.Positions.{first_of}
use Rattle.zplan.specs.Ranges.{places}
use Rattle.zplan.specs.Schedules.{HasNoneWaiting}
use Rattle.zplan.proofs.Entries.{listed_at, waiting_here, none_more, take_all}
use Rattle.zplan.proofs.entry.place_of.Goals as goal

pub waits_from-requires : goal.waits_from-requires
waits_from-requires c = (listed_at c.requires.0 c.args.entries.now c.loop-at.at c.index-entries-at.result c.requires.1 c.loop-at-test.true c.index-entries-at.is).begun

pub returns-then-waits_from-clause-some : goal.returns-then-waits_from-clause-some
returns-then-waits_from-clause-some c =
    let a = c.waits_from.ensures in let b = c.if-waits_from.true in
    let sent : c.index-entries-at.result.sent ≡ true = grind (arith, nat_tests) in
    let first : first_of (places c.index-entries-at.result.list.items) ≡ c.args.first = grind (arith, nat_tests) in
    waiting_here c.args.entries.now c.args.first c.loop-at.at c.index-entries-at.result c.loop-at-test.true c.index-entries-at.is sent first

pub loop-at-preserved : goal.loop-at-preserved
loop-at-preserved c =
    subst (λ k. HasNoneWaiting c.args.first (take k c.args.entries.now)) (let e : suc c.loop-at.at ≡ c.loop-at.at + 1 = omega arith in e)
    (none_more c.args.entries.now c.args.first c.loop-at.at c.index-entries-at.result c.loop-at.invariant c.loop-at-test.true c.index-entries-at.is
    (sym c.waits_from.ensures ∙ c.if-waits_from.false))

pub returns-clause-none : goal.returns-clause-none
returns-clause-none c = subst (HasNoneWaiting c.args.first) (take_all c.args.entries.now c.loop-at.at c.loop-at-test.false) c.loop-at.invariant
