use Rattle.zapdu.proofs.PlainFronts.{run_whole}
use Rattle.zapdu.proofs.text.put_run.Goals as goal

pub returns-in-Some-clause-whole : goal.returns-in-Some-clause-whole
returns-in-Some-clause-whole c =
    run_whole c.args.out.now.items c.put_front.new.out.items c.args.octets.now c.in-Some.block.now c.in_ok-count.count
    c.in_ok-count.ensures.some.1 c.in-Some.ensures.cases.enough c.in-Some.ensures.cases.same c.in_ok-count.ensures.whole
