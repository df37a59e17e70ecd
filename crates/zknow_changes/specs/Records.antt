-- What the records of a saved file's catalogues have: contents and control numbers.
use Rattle.std.specs.Prelude.{ℕ, List, Option, Some, None, slice_get}
use Rattle.std.specs.List.{filter_map}
use Rattle.std.specs.Option.{option_map}
use Rattle.zapdu.specs.declared.productions.record.Record.{Record}
use Rattle.zapdu.specs.Productions.Records.{body}
use Rattle.zknow.specs.declared.fact.Fact.{Fact}
use Rattle.zknow.specs.declared.fact.Fact.TheVariants.{Count, Failed, Seen, Diag}
use Rattle.zknow.specs.Encodings.{encoding}
use Rattle.zknow_changes.specs.declared.held.Catalogue.{Catalogue}
use Rattle.zknow_changes.specs.declared.held.Catalogue.TheVariants.{Named, Numbered}
use Rattle.zknow_changes.specs.declared.held.Held.{Held}
use Rattle.zknow_changes.specs.Numbers.{control_number}

-- the catalogue of a target that may have a name
abbrev pub named_catalogue : ℕ → Option (List ℕ) → Catalogue
named_catalogue target (Some name) = Named name
named_catalogue target None = Numbered target

-- the catalogue of a target: its name, or its number if it has no name
abbrev pub catalogue : List (List ℕ) → ℕ → Catalogue
catalogue names target = named_catalogue target (slice_get names target)

-- The contents of a record: the canonical encoding of the record of a NamePlusRecord (Z39.50-2003, 4.1). The name of
-- the database is no part of them, since a target may leave it out.
abbrev pub contents : Record → List ℕ
contents r = encoding body r.body

-- a record of a target has its contents
abbrev pub held_contents : List (List ℕ) → ℕ → Record → Held
held_contents names target r = record { catalogue = catalogue names target; octets = contents r }

-- these octets of a target
abbrev pub held_octets : List (List ℕ) → ℕ → List ℕ → Held
held_octets names target octets = record { catalogue = catalogue names target; octets = octets }

-- a record of a target has its control number, if there is one
abbrev pub held_number : List (List ℕ) → ℕ → Record → Option Held
held_number names target r = option_map (held_octets names target) (control_number r)

-- the contents of the record that a fact tells of
abbrev pub fact_contents : List (List ℕ) → Fact → Option Held
fact_contents names (Count t s n) = None
fact_contents names (Failed t s) = None
fact_contents names (Seen t s p r) = Some (held_contents names t r)
fact_contents names (Diag t s p d) = None

-- the control number of the record that a fact tells of, if it has one
abbrev pub fact_number : List (List ℕ) → Fact → Option Held
fact_number names (Count t s n) = None
fact_number names (Failed t s) = None
fact_number names (Seen t s p r) = held_number names t r
fact_number names (Diag t s p d) = None

-- the contents of the records that facts tell of
abbrev pub contents_of : List (List ℕ) → List Fact → List Held
contents_of names facts = filter_map (fact_contents names) facts

-- the control numbers of the records that facts tell of
abbrev pub numbers_of : List (List ℕ) → List Fact → List Held
numbers_of names facts = filter_map (fact_number names) facts
