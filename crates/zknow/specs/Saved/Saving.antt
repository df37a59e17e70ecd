-- The state of a file that is written.
use Rattle.std.specs.Prelude.{◌≡◌, ◌⊎◌, ℕ, true, false, List, ◌++◌, Result, Ok, Err, ⊤}
use Rattle.std.specs.List.{AllByRecursion}
use Rattle.zasn.specs.Place.{Place}
use Rattle.zknow.specs.declared.fact.Fact.{Fact}
use Rattle.zknow.specs.declared.saved.saving.Saving.{Saving}
use Rattle.zknow.specs.declared.saved.saving.SaveError.{SaveError}
use Rattle.zknow.specs.declared.saved.saving.SaveError.TheVariants.{TooDeep, TooLong, Memory}
use Rattle.zknow.specs.Encodings.{encoding}
use Rattle.zknow.specs.Saved.SavedFacts.{saved_names, saved_fact}
use Rattle.zknow.specs.Saved.Saved.{saved, IsWithinLimits, IsTooDeepElement, IsTooLongElement, HasTooDeep, HasTooLong}

-- the value's element was appended
pub record IsAdded {A : Type 0} (p : Place A) (x : A) (old new : Saving) : Type 0 where
  pub long : new.long ≡ old.long
  pub octets : new.octets.items ≡ old.octets.items ++ encoding p x
  pub fits : IsWithinLimits p x
  pub short : IsTooLongElement p x → ⊥

-- the value's element is too long, and was left out
pub record IsLeftOut {A : Type 0} (p : Place A) (x : A) (old new : Saving) : Type 0 where
  pub long : new.long ≡ true
  pub is : IsTooLongElement p x

-- before and after `put`: the value's element was appended, or left out because it is too long; or why not
abbrev pub AfterPut : {A : Type 0} → Place A → A → Saving → Result (Unit {0}) SaveError → Saving → Type 0
AfterPut p x old (Ok u) new = (IsTooDeepElement p x → ⊥) × (IsAdded p x old new ⊎ IsLeftOut p x old new)
AfterPut p x old (Err TooDeep) new = IsTooDeepElement p x
AfterPut p x old (Err TooLong) new = ⊥
AfterPut p x old (Err Memory) new = ⊤

-- the octets are the elements of the names and facts, unless one was too long
pub record IsSavedUpTo (names : List (List ℕ)) (facts : List Fact) (s : Saving) : Type 0 where
  pub shallow : HasTooDeep names facts → ⊥
  pub long : s.long ≡ true → HasTooLong names facts
  pub short : s.long ≡ false → HasTooLong names facts → ⊥
  pub octets : s.long ≡ false → s.octets.items ≡ saved names facts
  pub names_fit : s.long ≡ false → IsWithinLimits saved_names names
  pub facts_fit : s.long ≡ false → AllByRecursion (IsWithinLimits saved_fact) facts
