-- The questions of a world in order, and what is found for each: a target in memory, or an address.
use Rattle.std.specs.Prelude.{◌≡◌, ℕ, List, [], ◌∷◌, ◌++◌, map, Option, Some, None, Result, Ok, Err}
use Rattle.zoom_questions.specs.declared.question.Question.{Question}
use Rattle.zmeta_world.specs.declared.world.AskedQuestion.{AskedQuestion}
use Rattle.zmeta_world.specs.declared.world.WorldError.{WorldError}
use Rattle.zmeta_world.specs.declared.world.WorldError.TheVariants as errors
use Rattle.zmeta_world.specs.declared.parts.Parts.{Parts}
use Rattle.zmeta_world.specs.Worlds.{asked_names}

-- the questions, without their lines and names
abbrev pub questions_of : List AskedQuestion → List Question
questions_of asked_questions = map (λ i. i.question) asked_questions

-- ---- the parts of questions

-- the parts of these questions, in order
pub record AreParts (asked_questions : List AskedQuestion) (p : Parts) : Type 0 where
  pub questions : p.questions.items ≡ questions_of asked_questions
  pub names : p.names.items ≡ asked_names asked_questions

-- the parts, with those of one question more
pub record IsOneMore (asked_question : AskedQuestion) (old new : Parts) : Type 0 where
  pub questions : new.questions.items ≡ old.questions.items ++ asked_question.question ∷ []
  pub names : new.names.items ≡ old.names.items ++ asked_question.name ∷ []

-- ---- what is found for each question

-- what is found for a question; or the question's line if nothing is found
abbrev pub FindResult : {A : Type 0} → (AskedQuestion → Option A) → AskedQuestion → Result A WorldError → Type 0
FindResult find asked_question (Ok found) = find asked_question ≡ Some found
FindResult find asked_question (Err (errors.Refused line)) = (find asked_question ≡ None) × (line ≡ asked_question.line)
FindResult find asked_question (Err errors.Memory) = Unit {0}

-- these are found for the questions, one for each
abbrev pub AreFound : {A : Type 0} → (AskedQuestion → Option A) → List AskedQuestion → List A → Type 0
AreFound find asked_questions found = map find asked_questions ≡ map Some found

-- the line is that of the first question for which nothing is found
pub record IsFirstUnfoundLine {A : Type 0} (find : AskedQuestion → Option A) (asked_questions : List AskedQuestion)
    (line : ℕ) : Type 0 where
  pub front : List AskedQuestion
  pub found : List A
  pub asked_question : AskedQuestion
  pub rest : List AskedQuestion
  pub cut : asked_questions ≡ front ++ asked_question ∷ rest
  pub before : AreFound find front found
  pub none : find asked_question ≡ None
  pub place : line ≡ asked_question.line

-- a refusal gives the line of the first question for which nothing is found
abbrev pub IsFirstUnfound : {A : Type 0} → (AskedQuestion → Option A) → List AskedQuestion → WorldError → Type 0
IsFirstUnfound find asked_questions (errors.Refused line) = IsFirstUnfoundLine find asked_questions line
IsFirstUnfound find asked_questions errors.Memory = Unit {0}
