use Rattle.std.proofs.Common.{◌+◌, ap}
use Rattle.std.proofs.lemmas.List.{drop_more}
use Rattle.ztarget.proofs.Built.{entry_more}
use Rattle.ztarget.proofs.index.index_of.Goals as goal

pub loop-entry-preserved : goal.loop-entry-preserved
loop-entry-preserved c = record {
  counted = ap (λ n. n + 1) c.loop-entry.invariant.counted;
  stands = λ w. entry_more w c.loop-entry.entry-index c.entry-item.result _ _ _ _ _ (rw (← c.entry-item.is) at (drop_more c.args.entries.now c.loop-entry.entry-index c.entry-item.result c.loop-entry-test.true))
      (rw c.loop-entry.invariant.counted at (rw c.as_slice.ensures at c.in_ok-put_fields.ensures w)) (c.loop-entry.invariant.stands w);
}
