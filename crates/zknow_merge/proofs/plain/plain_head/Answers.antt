use Rattle.zknow_merge.proofs.PlainFacts.{next_plain}
use Rattle.zknow_merge.proofs.plain.plain_head.Goals as goal

pub returns-in-Ok : goal.returns-in-Ok
returns-in-Ok c =
    let n = c.in-Some.numbers in
    let e = c.in-Ok.ensures in
    next_plain c.as_slice.result.now c.args.octets.now.items c.in-Some.element.now n.target n.set n.position n.rest.now
    c.as_slice.ensures c.in-Some.ensures c.in-Ok.head e.kind e.target e.set e.number e.octets e.element
