-- What octets show of the element that a file goes on with, whatever octets come after them.
use Rattle.std.specs.Prelude.{◌≡◌, ℕ, List, ◌++◌, length, Some, None, Result, Ok, Err, ⊤}
use Rattle.zber.specs.Elements.{Element}
use Rattle.zasn_tables.specs.Place.{Place}
use Rattle.zknow.specs.Encodings.{encoding}
use Rattle.zknow.specs.Saved.Loaded.{HasNoFrontValue}
use Rattle.zknow.specs.Saved.Fronts.{IsFrontElement, IsFrontValue, IsTakenFront, IsNoncanonical}
use Rattle.zknow_merge.specs.declared.front.Front.{Front}
use Rattle.zknow_merge.specs.declared.front.Front.TheVariants as front
use Rattle.zknow_merge.specs.declared.front.FrontError.{FrontError}
use Rattle.zknow_merge.specs.declared.front.FrontError.TheVariants.{NoValue, NotCanonical, Unfinished, Memory}

-- how much octets show of the element that they begin with
abbrev pub IsFrontOf : List ℕ → Front → Type 0
IsFrontOf octets (front.Whole n) = IsFrontElement octets (Some n)
IsFrontOf octets front.Fault = (more : List ℕ) → IsFrontElement (octets ++ more) None
IsFrontOf octets front.Unfinished = IsFrontElement octets None

-- the octets begin with the canonical element of the value
pub record IsTaken {A : Type 0} (p : Place A) (octets : List ℕ) (x : A) (element : List ℕ) : Type 0 where
  pub is : element ≡ encoding p x
  pub front : IsTakenFront p octets x (length element)

-- the element that the octets begin with, or why there is none
abbrev pub IsNodeResult : List ℕ → Result Element FrontError → Type 0
IsNodeResult octets (Ok n) = IsFrontElement octets (Some n)
IsNodeResult octets (Err NoValue) = (more : List ℕ) → IsFrontElement (octets ++ more) None
IsNodeResult octets (Err NotCanonical) = ⊥
IsNodeResult octets (Err Unfinished) = IsFrontElement octets None
IsNodeResult octets (Err Memory) = ⊤

-- the value of the element that the octets begin with, or why there is none
abbrev pub IsValueResult : {A : Type 0} → Place A → List ℕ → Result A FrontError → Type 0
IsValueResult p octets (Ok x) = IsFrontValue p octets (Some x)
IsValueResult p octets (Err NoValue) = (more : List ℕ) → HasNoFrontValue p (octets ++ more)
IsValueResult p octets (Err NotCanonical) = ⊥
IsValueResult p octets (Err Unfinished) = ⊥
IsValueResult p octets (Err Memory) = ⊤

-- why the octets do not begin with the canonical element of a value; the first two hold whatever comes after them
abbrev pub IsFrontFault : {A : Type 0} → Place A → List ℕ → FrontError → Type 0
IsFrontFault p octets NoValue = (more : List ℕ) → HasNoFrontValue p (octets ++ more)
IsFrontFault p octets NotCanonical = (more : List ℕ) → IsNoncanonical p (octets ++ more)
IsFrontFault p octets Unfinished = HasNoFrontValue p octets
IsFrontFault p octets Memory = ⊤
