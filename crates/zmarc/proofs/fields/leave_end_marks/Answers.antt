use Rattle.std.proofs.Common.{sym, ◌∙◌, arith}
use Rattle.zmarc.proofs.EndTheory.{popped_off, popped_kept, popped_none}
use Rattle.zmarc.proofs.fields.leave_end_marks.Goals as goal

pub returns-then-not-is_empty : goal.returns-then-not-is_empty
returns-then-not-is_empty c =
    popped_kept c.loop-last.found.items c.pop.new.self.items _ c.in-Some.last c.cut_end_marks-kept.result
    c.in-Some.ensures.items c.cut_end_marks-kept.ensures (sym c.is_empty.ensures ∙ c.if-not-is_empty.true)
    c.in_ok-push.ensures.items
    ∙ c.loop-last.invariant

pub loop-last-preserved : goal.loop-last-preserved
loop-last-preserved c =
    popped_off c.loop-last.found.items c.pop.new.self.items c.in-Some.last c.cut_end_marks-kept.result.now
    c.in-Some.ensures.items c.cut_end_marks-kept.ensures (sym c.is_empty.ensures ∙ c.if-not-is_empty.false)
    ∙ c.loop-last.invariant

pub returns : goal.returns
returns c =
    popped_none c.loop-last.found.items c.pop.new.self.items (omega (arith, c.in_default.ensures.cases))
    (omega (arith, c.in_default.ensures.cases))
    ∙ c.loop-last.invariant
