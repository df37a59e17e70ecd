use Rattle.std.proofs.Common.{sym, ◌∙◌, arith}
use Rattle.zmarc.proofs.EndTheory.{off_at, stay_at, none_stay}
use Rattle.zmarc.proofs.fields.cut_end_marks.Goals as goal

pub returns-then-not-is_mark : goal.returns-then-not-is_mark
returns-then-not-is_mark c =
    stay_at c.args.octets.now c.loop-len.len c.loop-len-test.true c.loop-len.invariant.within
    (sym c.is_mark.ensures ∙ c.if-not-is_mark.true)
    ∙ c.loop-len.invariant.same

pub loop-len-preserved : goal.loop-len-preserved
loop-len-preserved c = record {
  same = off_at c.args.octets.now c.loop-len.len c.loop-len-test.true c.loop-len.invariant.within
      (sym c.is_mark.ensures ∙ c.if-not-is_mark.false)
      ∙ c.loop-len.invariant.same;
  within = omega arith;
}

pub returns : goal.returns
returns c = none_stay c.args.octets.now c.loop-len.len (omega arith) ∙ c.loop-len.invariant.same
