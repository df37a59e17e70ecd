use Rattle.std.proofs.Common.{◌≡◌, ◌∙◌, refl, [], ◌∷◌, append_assoc}
use Rattle.std.specs.Vec.Iter.{into_iter_items}
use Rattle.zmeta_world.proofs.Finding.{one_more}
use Rattle.zmeta_world.proofs.parts.split_questions.Goals as goal

pub loop-asked_question-init : goal.loop-asked_question-init
loop-asked_question-init c = record { parts = c.new-parts.ensures; whole = refl }

pub loop-asked_question-preserved : goal.loop-asked_question-preserved
loop-asked_question-preserved c =
    let at = c.loop-asked_question in
    let x = c.in-Some.asked_question in
    let steps : into_iter_items at.asked_question-iterator ≡ x ∷ into_iter_items c.next.new.self = c.in-Some.ensures.steps.0 in
    record {
      parts = one_more at.yielded x at.parts c.put.new.self at.invariant.parts c.in_ok-put.ensures;
      whole = append_assoc at.yielded (x ∷ []) _ ∙ rw (← steps) at.invariant.whole;
    }
