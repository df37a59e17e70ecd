-- The limits of questions and of settings (Z39.50-2003, 3.2.2.1 and 3.2.3.1).
use Rattle.std.specs.Prelude.{ℕ, ◌<◌, ◌≤◌, List, [], ◌∷◌, length, Option, None, Some}
use Rattle.zplan.specs.Ranges.{AreWanted, positions}
use Rattle.zoom_questions.specs.declared.question.Question.{Question}
use Rattle.zoom_questions.specs.declared.question.MetaSettings.{MetaSettings}

-- the record syntax, if there is one, has at most 1,000 arcs
abbrev pub HasFewArcs : Option (List ℕ) → Type 0
HasFewArcs None = Unit {0}
HasFewArcs (Some arcs) = length arcs ≤ 1000

-- the question is within its limits: its ranges ascend and leave gaps, its positions are 1 to 2,147,483,647 and at
-- most 1,000,000, and its record syntax has few arcs
pub record IsAskable (q : Question) : Type 0 where
  pub wanted : AreWanted q.wanted
  pub some : length (positions q.wanted) ≤ 1000000
  pub syntax : HasFewArcs q.syntax

-- each question is within its limits
abbrev pub AreAskable : List Question → Type 0
AreAskable [] = Unit {0}
AreAskable (q ∷ qs) = IsAskable q × AreAskable qs

-- the settings are within their limits: the octets of the name, the positions of one Present, the Presents that
-- wait at a time
pub record AreFit (s : MetaSettings) : Type 0 where
  pub name : length s.name ≤ 2000000
  pub steps : 0 < s.step
  pub most : s.step ≤ 1000
  pub room : 0 < s.window
  pub widest : s.window ≤ 64
