-- Element set names (Z39.50-2003, 4.1: ElementSetNames).
use Rattle.std.specs.Prelude.{◌≡◌, refl}
use Rattle.std.proofs.Common.{inl, inr}
use Rattle.zber.specs.AsnTags.{context, universal}
use Rattle.zasn.specs.Place.{Place}
use Rattle.zasn.specs.Choice.{Choice, either, finally, Pick, picked}
use Rattle.zasn.specs.Table.{ComponentTable, required, ended, ◌⨾◌, Elements}
use Rattle.zasn.specs.Places.{of_table, of_choice, octets, within, list}
use Rattle.zapdu.specs.declared.productions.element_set_names.DatabaseElementSet.{DatabaseElementSet}
use Rattle.zapdu.specs.declared.productions.element_set_names.ElementSetNames.{ElementSetNames}
use Rattle.zapdu.specs.declared.productions.element_set_names.ElementSetNames.TheVariants.{Generic, DatabaseSpecific}

-- dbName DatabaseName [105], esn ElementSetName [103]
abbrev pub database_element_set_table : ComponentTable DatabaseElementSet
database_element_set_table =
    required (octets (context 105)) (λ v. v.database_name)
    ⨾ required (octets (context 103)) (λ v. v.element_set_name)
    ⨾ ended

-- an entry of databaseSpecific (Z39.50-2003, 4.1: ElementSetNames): how its elements are read and built
unfoldable pub database_element_set_parts : Elements DatabaseElementSet
database_element_set_parts =
    of_table database_element_set_table (λ a b. record { database_name = a; element_set_name = b }) (λ v. refl)
    (λ x. refl) refl

-- one entry of databaseSpecific: a SEQUENCE of a database and the element set for its records
abbrev pub whole_database_element_set : Place DatabaseElementSet
whole_database_element_set = within (universal 16) database_element_set_parts

-- genericElementSetName [0] InternationalString, databaseSpecific [1] SEQUENCE OF
abbrev pub kinds_of_element_set_names : Choice ElementSetNames
kinds_of_element_set_names =
    either (octets (context 0)) Generic
    (finally (list (context 1) whole_database_element_set) DatabaseSpecific)

-- which form of element set names it is, genericElementSetName first, and its value
abbrev pub element_set_names_pick : ElementSetNames → Pick kinds_of_element_set_names
element_set_names_pick (Generic xs) = inl xs
element_set_names_pick (DatabaseSpecific vs) = inr vs

pub element_set_names-same : (e : ElementSetNames) → picked kinds_of_element_set_names (element_set_names_pick e) ≡ e
element_set_names-same (Generic xs) = refl
element_set_names-same (DatabaseSpecific vs) = refl

pub element_set_names-back : (x : Pick kinds_of_element_set_names)
    → element_set_names_pick (picked kinds_of_element_set_names x) ≡ x
element_set_names-back (inl xs) = refl
element_set_names-back (inr vs) = refl

-- the place of an ElementSetNames, a choice
unfoldable pub element_set_names : Place ElementSetNames
element_set_names =
    of_choice kinds_of_element_set_names element_set_names_pick element_set_names-same element_set_names-back refl
