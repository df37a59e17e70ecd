-- The element that octets begin with, and its value.
use Rattle.std.specs.Prelude.{◌≡◌, ◌≢◌, ℕ, ◌≤◌, List, ◌++◌, length, take, Option, Some, None, ⊤}
use Rattle.zber.specs.Elements.{Element}
use Rattle.zber.specs.Spelling.{HasFirstMessage}
use Rattle.zasn.specs.Place.{Place}
use Rattle.zknow.specs.declared.saved.front.Front.{Front}
use Rattle.zknow.specs.declared.saved.front.Front.TheVariants as front
use Rattle.zknow.specs.declared.saved.front.FrontError.{FrontError}
use Rattle.zknow.specs.declared.saved.front.FrontError.TheVariants.{NoValue, NotCanonical, Memory}
use Rattle.zknow.specs.Encodings.{encoding}
use Rattle.zknow.specs.Saved.Saved.{longest, IsElement}
use Rattle.zknow.specs.Saved.Loaded.{HasFrontValue, HasNoFrontValue}

-- the octets begin with this element, or with none
abbrev pub IsFrontElement : List ℕ → Option Element → Type 0
IsFrontElement octets None = (n : Element) (rest : List ℕ) → HasFirstMessage longest octets n rest → ⊥
IsFrontElement octets (Some n) = (rest : List ℕ) × HasFirstMessage longest octets n rest

-- how much octets show of the element that they begin with
abbrev pub IsFrontOf : List ℕ → Front → Type 0
IsFrontOf octets (front.Whole n) = IsFrontElement octets (Some n)
IsFrontOf octets front.Fault = (more : List ℕ) → IsFrontElement (octets ++ more) None
IsFrontOf octets front.Unfinished = IsFrontElement octets None

-- the value of the element that the octets begin with
abbrev pub IsFrontValue : {A : Type 0} → Place A → List ℕ → Option A → Type 0
IsFrontValue p octets None = HasNoFrontValue p octets
IsFrontValue p octets (Some x) = (spelling rest : List ℕ) × HasFrontValue p x octets spelling rest

-- the first `size` octets are the canonical encoding of the value
pub record IsTakenFront {A : Type 0} (p : Place A) (octets : List ℕ) (x : A) (size : ℕ) : Type 0 where
  pub within : size ≤ length octets
  pub canonical : take size octets ≡ encoding p x
  pub element : IsElement p x (encoding p x)

-- the octets begin with an element of a value, and it is not encoded canonically
pub record IsNoncanonical {A : Type 0} (p : Place A) (octets : List ℕ) : Type 0 where
  pub value : A
  pub spelling : List ℕ
  pub rest : List ℕ
  pub begins : HasFrontValue p value octets spelling rest
  pub odd : spelling ≢ encoding p value

-- why no value was taken
abbrev pub IsFrontFault : {A : Type 0} → Place A → List ℕ → FrontError → Type 0
IsFrontFault p octets NoValue = HasNoFrontValue p octets
IsFrontFault p octets NotCanonical = IsNoncanonical p octets
IsFrontFault p octets Memory = ⊤
