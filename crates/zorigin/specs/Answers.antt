-- Answers whose replies fit their requests.
use Rattle.std.specs.Prelude.{◌≡◌, ℕ, Bool, true, List}
use Rattle.std.specs.List.{AllByRecursion}
use Rattle.zapdu.specs.declared.apdu.Apdu.{Apdu}
use Rattle.zorigin.specs.declared.answer.What.{What}
use Rattle.zorigin.specs.declared.answer.What.TheVariants as what
use Rattle.zorigin.specs.declared.answer.Asked.{Asked}
use Rattle.zorigin.specs.declared.answer.Answer.{Answer}
use Rattle.zorigin.specs.declared.answer.Taken.{Taken}
use Rattle.zorigin.specs.declared.answer.Taken.TheVariants as taken
use Rattle.zorigin.specs.Ranges.{are_ranges}
use Rattle.zorigin.specs.Fitting.{IsFitReply}

-- the ranges of a Present can be asked for, whatever the set's count is
abbrev pub has_valid_ranges : What → Bool
has_valid_ranges (what.Present ranges) = are_ranges ranges
has_valid_ranges _ = true

-- the reply fits its request, and the ranges of a Present can be asked for
pub record IsFitAnswer (answer : Answer) : Type 0 where
  pub fits : IsFitReply answer.asked.what answer.reply
  pub positions : has_valid_ranges answer.asked.what ≡ true

-- the answer has this reply, and fits
abbrev pub IsFitAnswerWith : Apdu → Answer → Type 0
IsFitAnswerWith reply answer = (answer.reply ≡ reply) × IsFitAnswer answer

-- the answer in it, if it has one, has this reply and fits
abbrev pub HasFitAnswer : Apdu → Taken → Type 0
HasFitAnswer reply (taken.Opened answer) = IsFitAnswerWith reply answer
HasFitAnswer reply (taken.Rejected answer) = IsFitAnswerWith reply answer
HasFitAnswer reply (taken.Answered answer) = IsFitAnswerWith reply answer
HasFitAnswer reply taken.Closed = Unit {0}

-- the ranges of all outstanding Presents can be asked for
abbrev pub HaveValidRanges : List (ℕ × Asked) → Type 0
HaveValidRanges outstanding = AllByRecursion (λ (e : ℕ × Asked). has_valid_ranges e.1.what ≡ true) outstanding
