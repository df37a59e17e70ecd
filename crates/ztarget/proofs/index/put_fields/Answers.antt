use Rattle.std.proofs.Common.{◌+◌, ap}
use Rattle.std.proofs.lemmas.List.{drop_more}
use Rattle.ztarget.proofs.Built.{field_more}
use Rattle.ztarget.proofs.index.put_fields.Goals as goal

pub loop-field-preserved : goal.loop-field-preserved
loop-field-preserved c = record {
  counted = ap (λ n. n + 1) c.loop-field.invariant.counted;
  stands = λ w. field_more w c.args.entry c.loop-field.field-index c.field-item.result _ _ _ _ _ (rw (← c.field-item.is) at (drop_more c.args.fields.now c.loop-field.field-index c.field-item.result c.loop-field-test.true))
      (rw c.loop-field.invariant.counted at (rw (c.deref.ensures.value, c.in_ok-words.ensures, c.as_slice.ensures) at c.in_ok-put_words.ensures w)) (c.loop-field.invariant.stands w);
}
