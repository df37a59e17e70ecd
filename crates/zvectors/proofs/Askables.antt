-- One more question behind others.
use Rattle.std.proofs.Common.{List, [], ◌∷◌, ◌++◌}
use Rattle.zoom_questions.specs.declared.question.Question.{Question}
use Rattle.zoom_questions.specs.Askable.{IsAskable, AreAskable}

pub one_more : (qs : List Question) (q : Question) → AreAskable qs → IsAskable q → AreAskable (qs ++ q ∷ [])
one_more [] q are is = (is, tt)
one_more (x ∷ xs) q are is = (are.0, one_more xs q are.1 is)
