use Rattle.std.proofs.Common.{◌≡◌, ◌∷◌, [], ◌++◌, List, length, rules, refl, sym, ap, subst, ◌∙◌, append_assoc, append-nil, arith}
use Rattle.std.specs.Vec.Iter.{into_iter_items}
use Rattle.zoom_questions.specs.declared.question.Question.{Question}
use Rattle.zoom_questions.specs.Askable.{IsAskable, AreAskable}
use Rattle.zoom_pool.specs.Metas.{AreNewDrivers}
use Rattle.zoom_pool.proofs.Metas.{askable_at, stand_push}
use Rattle.zoom_pool.proofs.meta.drivers_for.Goals as goal

nothing_left : {X : Type 0} (l : List X) → length l ≡ 0 → l ≡ []
nothing_left [] h = refl
nothing_left (x ∷ xs) h = absurd (omega arith)

-- the next question can be asked
next_askable : (questions yielded left gone : List Question) (x : Question) → yielded ++ left ≡ questions → left ≡ x ∷ gone
    → AreAskable questions → IsAskable x
next_askable questions yielded left gone x all step a =
    askable_at yielded x gone (subst AreAskable (sym (ap (λ l. yielded ++ l) (sym step) ∙ all)) a)

pub new-requires-clause-wanted : goal.new-requires-clause-wanted
new-requires-clause-wanted c =
    let at = c.loop-question in
    (next_askable c.args.questions at.yielded (into_iter_items at.question-iterator) (into_iter_items c.next.new.self) c.in-Some.question
    (at.invariant.0 ∙ c.into_iter-question-iterator.ensures.into_iter_gives.0 ∙ c.into_vec-question-items.ensures)
    c.in-Some.ensures.steps.0 c.requires.askable).wanted

pub new-requires-clause-syntax : goal.new-requires-clause-syntax
new-requires-clause-syntax c =
    let at = c.loop-question in
    (next_askable c.args.questions at.yielded (into_iter_items at.question-iterator) (into_iter_items c.next.new.self) c.in-Some.question
    (at.invariant.0 ∙ c.into_iter-question-iterator.ensures.into_iter_gives.0 ∙ c.into_vec-question-items.ensures)
    c.in-Some.ensures.steps.0 c.requires.askable).syntax

pub loop-question-init : goal.loop-question-init
loop-question-init c = rw c.new-drivers.ensures.items (refl, tt, search rules)

pub loop-question-preserved : goal.loop-question-preserved
loop-question-preserved c =
    let at = c.loop-question in
    let x = c.in-Some.question in
    let steps : into_iter_items at.question-iterator ≡ x ∷ into_iter_items c.next.new.self = c.in-Some.ensures.steps.0 in (
      append_assoc at.yielded (x ∷ []) _ ∙ rw (← steps) at.invariant.0,
      subst (AreNewDrivers (at.yielded ++ x ∷ []) c.args.step c.args.window) (sym c.in_ok-push.ensures.items)
          (stand_push at.yielded c.args.step c.args.window at.drivers.items x _ at.invariant.1 c.new.ensures),
      let was = at.invariant.2 in
          let gone = c.in-Some.ensures.steps.1 in
          let short = ap length steps in
          omega arith,
    )

pub returns : goal.returns
returns c =
    let at = c.loop-question in
    let none = c.in-None.ensures.steps in
    let empty : into_iter_items at.question-iterator ≡ [] = nothing_left _ (sym at.invariant.2 ∙ none.0) in
    let all = sym (append-nil at.yielded) ∙ rw empty at at.invariant.0
    ∙ c.into_iter-question-iterator.ensures.into_iter_gives.0 ∙ c.into_vec-question-items.ensures in
    subst (λ l. AreNewDrivers l c.args.step c.args.window at.drivers.items) all at.invariant.1
