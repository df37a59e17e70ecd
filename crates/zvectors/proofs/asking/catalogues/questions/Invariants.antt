-- the questions so far are within their limits
use Rattle.zoom_questions.specs.Askable.{AreAskable}
use Rattle.zvectors.proofs.asking.catalogues.questions.Given as goal

abbrev pub invariant-loop-made : goal.invariant-loop-made
invariant-loop-made l = AreAskable l.questions.items
