use Rattle.std.proofs.Common.{w64}
use Rattle.std.proofs.lemmas.Int.{to_z-of_z}
use Rattle.zorigin_facts.proofs.Positions.{seen_step}
use Rattle.zorigin_facts.proofs.facts.put_seen.Goals as goal

pub loop-index-preserved : goal.loop-index-preserved
loop-index-preserved c =
    let plain = to_z-of_z w64 c.args.first c.ranges.first in
    let before = rw plain at c.loop-index.invariant in
    let item = rw plain at c.in_ok-seen_at.ensures in
    rw plain (seen_step c.args.target c.args.set c.args.first c.loop-index.index c.args.records.now c.args.out.now.items c.loop-index-test.true c.index-records-index.is item before c.in_ok-push.ensures.items)
