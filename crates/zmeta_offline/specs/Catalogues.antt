-- The facts of some catalogues alone.
use Rattle.std.specs.Prelude.{◌≡◌, ◌↔◌, ℕ, Bool, true, false, List, [], ◌∷◌, slice_get, Contains, Option, Some, None, Result, Ok, Err}
use Rattle.zknow.specs.declared.fact.Fact.{Fact}
use Rattle.zknow.specs.Facts.{fact_target, AreFacts}
use Rattle.zmeta_offline.specs.Names.{is_picked, AreAllKnown, IsFirstUnknown}
use Rattle.zmeta_devices.specs.declared.fault.Fault.{Fault}
use Rattle.zmeta_devices.specs.declared.fault.Fault.TheVariants.{NoCatalogue, Memory}

-- the catalogue, if it has a name, is among `only`, or `only` is empty
abbrev pub is_chosen : List (List ℕ) → Option (List ℕ) → Bool
is_chosen only (Some name) = is_picked only name
is_chosen [] None = true
is_chosen (first ∷ only) None = false

-- the fact is about such a catalogue; the first name is target 0's
abbrev pub is_of_chosen : List (List ℕ) → List (List ℕ) → Fact → Bool
is_of_chosen only names f = is_chosen only (slice_get names (fact_target f))

-- of the facts, exactly those about the chosen catalogues
pub record IsOfCatalogues (only names : List (List ℕ)) (facts chosen : List Fact) : Type 0 where
  pub lawful : AreFacts chosen
  pub members : (f : Fact) → Contains chosen f ↔ (Contains facts f × (is_of_chosen only names f ≡ true))

-- the facts about the chosen catalogues, or the first name that no catalogue has
abbrev pub CataloguesResult : List (List ℕ) → List (List ℕ) → List Fact → Result (List Fact) Fault → Type 0
CataloguesResult only names facts (Ok chosen) = AreAllKnown only names × IsOfCatalogues only names facts chosen
CataloguesResult only names facts (Err (NoCatalogue name)) = IsFirstUnknown only names name.now
CataloguesResult only names facts (Err Memory) = Unit {0}
CataloguesResult only names facts (Err _) = ⊥
