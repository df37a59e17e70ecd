-- What a reply that was read can add to the facts known.
use Rattle.std.specs.Prelude.{List, Contains}
use Rattle.zber.specs.Elements.{Element}
use Rattle.zapdu.specs.declared.apdu.Apdu.{Apdu}
use Rattle.zapdu.specs.Writes.{Writes}
use Rattle.zknow.specs.declared.fact.Fact.{Fact}
use Rattle.zknow.specs.Tables.Join.{IsUnion, IsPartOfUnion}
use Rattle.zorigin.specs.declared.answer.Answer.{Answer}
use Rattle.zorigin.specs.declared.answer.Taken.{Taken}
use Rattle.zorigin.specs.Answers.{IsFitAnswer, HasFitAnswer}

-- the reply was read from an element, and its facts can be shown
pub record IsLearnable (answer : Answer) : Type 0 where
  pub element : Element
  pub written : Writes answer.reply element
  pub showable : IsFitAnswer answer

-- what the origin took was read from an element, and its facts can be shown
pub record IsLearnableTaken (taken : Taken) : Type 0 where
  pub element : Element
  pub reply : Apdu
  pub written : Writes reply element
  pub showable : HasFitAnswer reply taken

-- the reply was read from an element
abbrev pub IsRead : Apdu → Type 0
IsRead reply = (e : Element) × Writes reply e

-- each fact that was known is still known
abbrev pub AreStillKnown : List Fact → List Fact → Type 0
AreStillKnown old new = (q : Fact) → Contains old q → Contains new q

-- exactly these facts were added to those known
abbrev pub AreAdded : List Fact → List Fact → List Fact → Type 0
AreAdded old facts new = IsUnion (Contains old) (Contains facts) (Contains new)

-- some of these facts, and no others, were added to those known
abbrev pub ArePartlyAdded : List Fact → List Fact → List Fact → Type 0
ArePartlyAdded old facts new = IsPartOfUnion (Contains old) (Contains facts) (Contains new)
