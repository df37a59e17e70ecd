-- The saved file: the canonical elements of the names and of the facts, one after the other.
use Rattle.std.specs.Prelude.{◌≡◌, ◌⊎◌, ℕ, ◌<◌, List, ◌++◌, length, IsSomeAnd, Contains, ⊤}
use Rattle.std.specs.List.{flat_map, AllByRecursion}
use Rattle.std.specs.List.Sorted.{IsStrictlySortedBy}
use Rattle.zber.specs.Elements.{Element, height}
use Rattle.zber.specs.Canonical.{canonical}
use Rattle.zber.specs.Spelling.{IsMessage, deepest}
use Rattle.zasn.specs.Place.{Place}
use Rattle.zknow.specs.declared.fact.Fact.{Fact}
use Rattle.zknow.specs.declared.saved.saving.SaveError.{SaveError}
use Rattle.zknow.specs.declared.saved.saving.SaveError.TheVariants.{TooDeep, TooLong, Memory}
use Rattle.zknow.specs.Encodings.{encoding}
use Rattle.zknow.specs.Facts.{fact_cmp}
use Rattle.zknow.specs.Saved.SavedFacts.{saved_names, saved_fact}

-- the file of these names and facts
abbrev pub saved : List (List ℕ) → List Fact → List ℕ
saved names facts = encoding saved_names names ++ flat_map (encoding saved_fact) facts

-- the most octets of an element
abbrev pub longest : ℕ
longest = 4194304

-- the octets are one element of the value, within the limits of depth and length
pub record IsElement {A : Type 0} (p : Place A) (x : A) (octets : List ℕ) : Type 0 where
  pub node : Element
  pub message : IsMessage longest node octets
  pub says : p.writes x node

-- the canonical element of the value is within the limits
abbrev pub IsWithinLimits : {A : Type 0} → Place A → A → Type 0
IsWithinLimits p x = IsElement p x (encoding p x)

-- the file is that of these names and facts, the facts are in order, and each element is within the limits
pub record IsSaved (names : List (List ℕ)) (facts : List Fact) (file : List ℕ) : Type 0 where
  pub octets : file ≡ saved names facts
  pub ordered : IsStrictlySortedBy fact_cmp facts
  pub names_fit : IsWithinLimits saved_names names
  pub facts_fit : AllByRecursion (IsWithinLimits saved_fact) facts

-- the value's element has more levels than the limit
abbrev pub IsTooDeepElement : {A : Type 0} → Place A → A → Type 0
IsTooDeepElement p x = IsSomeAnd (p.spelling x) (λ n. deepest < height n)

-- the value's element has more octets than the limit
abbrev pub IsTooLongElement : {A : Type 0} → Place A → A → Type 0
IsTooLongElement p x = IsSomeAnd (p.spelling x) (λ n. longest < length (canonical n))

-- one of the elements has more levels than the limit
abbrev pub HasTooDeep : List (List ℕ) → List Fact → Type 0
HasTooDeep names facts =
    IsTooDeepElement saved_names names ⊎ ((f : Fact) × Contains facts f × IsTooDeepElement saved_fact f)

-- one of the elements has more octets than the limit
abbrev pub HasTooLong : List (List ℕ) → List Fact → Type 0
HasTooLong names facts =
    IsTooLongElement saved_names names ⊎ ((f : Fact) × Contains facts f × IsTooLongElement saved_fact f)

-- no element has more levels or octets than the limits
abbrev pub AreWithinLimits : List (List ℕ) → List Fact → Type 0
AreWithinLimits names facts = (HasTooDeep names facts → ⊥) × (HasTooLong names facts → ⊥)

-- why a knowledge is not saved: an element is too deep, or else one is too long
abbrev pub IsSaveRefusal : List (List ℕ) → List Fact → SaveError → Type 0
IsSaveRefusal names facts TooDeep = HasTooDeep names facts
IsSaveRefusal names facts TooLong = HasTooLong names facts × (HasTooDeep names facts → ⊥)
IsSaveRefusal names facts Memory = ⊤
