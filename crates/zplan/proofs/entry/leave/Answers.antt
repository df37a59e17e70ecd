use Rattle.std.proofs.Common.{◌≡◌, ◌<◌, length, arith}
use Rattle.std.proofs.lemmas.Bool.Decides.{nat_tests}
use Rattle.zplan.specs.Ranges.{places}
use Rattle.zplan.proofs.Entries.{left_is}
use Rattle.zplan.proofs.entry.leave.Goals as goal

pub returns-clause-left : goal.returns-clause-left
returns-clause-left c =
    let ok = c.trim.new.list.ok in let a = c.is_empty.ensures in
    let pos : 0 < c.args.k = (let z = c.if-k-eq0.false in grind (arith, nat_tests)) in
    left_is (places c.args.entry.now.list.items) c.trim.new.list.items c.args.k c.is_empty.result c.trim.ensures.have c.trim.ensures.left pos
    (λ t. let r : length c.trim.new.list.items ≡ 0 = grind (arith, nat_tests, ok) in r)
    (λ f. let r : 0 < length c.trim.new.list.items = grind (arith, nat_tests, ok) in r)
