-- What a result set keeps of each entry that a search found: the number of its database among the target's, and its
-- own number in that database.
use Rattle.std.specs.Prelude.{◌≡◌, ℕ, List, [], map, Bool, Option, Some, None, unwrap_or, slice_get}
use Rattle.std.specs.List.{All, AllByRecursion, flat_map}
use Rattle.std.specs.Map.{values_of}
use Rattle.std.specs.Option.{IsSome, option_map}
use Rattle.zapdu.specs.declared.productions.record.Record.{Record}
use Rattle.ztarget.specs.declared.database.Entry.{Entry}
use Rattle.ztarget.specs.declared.database.Database.{Database}
use Rattle.ztarget.specs.declared.found.Hit.{Hit}
use Rattle.ztarget.specs.declared.searched_databases.Numbered.{Numbered}
use Rattle.ztarget.specs.Searching.{Found, kept_entry, places_from}
use Rattle.ztarget.specs.Showing.{shown_record}
use Rattle.ztarget.specs.Standing.{NamedSet}

-- an entry by two numbers from 0: that of its database among the target's, and its own in that database
abbrev pub hit : ℕ → ℕ → Hit
hit database entry = record { database = database; entry = entry }

-- the entry of this number, as a search of the database finds it
abbrev pub entry_in : Option Database → ℕ → Option Found
entry_in None i = None
entry_in (Some d) i = option_map (kept_entry d.name) (slice_get d.entries i)

-- the entry at a hit
abbrev pub entry_at : List Database → Hit → Option Found
entry_at databases h = entry_in (slice_get databases h.database) h.entry

-- there is an entry at the hit
abbrev pub IsHit : List Database → Hit → Type 0
IsHit databases h = IsSome (entry_at databases h)

-- there is an entry at each hit
abbrev pub AreHits : List Database → List Hit → Type 0
AreHits databases hits = AllByRecursion (IsHit databases) hits

-- the same of the sets of all names
abbrev pub AreHitSets : List Database → List (List ℕ × List Hit) → Type 0
AreHitSets databases sets = All (AreHits databases) (values_of sets)

-- stands for the entry at a hit that has none
abbrev pub no_entry : Found
no_entry = record { database = []; syntax = []; octets = [] }

-- the entry at a hit, as a result set has it; `no_entry` if there is none
abbrev pub found_at : List Database → Hit → Found
found_at databases h = unwrap_or (entry_at databases h) no_entry

-- the entries at hits, as a result set has them
abbrev pub all_found_at : List Database → List Hit → List Found
all_found_at databases hits = map (found_at databases) hits

-- the records that a response shows for hits
abbrev pub records_at_hits : ℕ → Option (List ℕ) → List Database → List Hit → List Record
records_at_hits size asked databases hits = map (shown_record size asked) (all_found_at databases hits)

-- there is an entry at each hit, and the entries are those that were found, in their order
pub record AreAt (databases : List Database) (hits : List Hit) (founds : List Found) : Type 0 where
  pub stand : AreHits databases hits
  pub found : all_found_at databases hits ≡ founds

-- a result set, from its name and its hits
abbrev pub named_set : List Database → List ℕ × List Hit → NamedSet
named_set databases e = record { name = e.0; found = all_found_at databases e.1 }

-- a target's result sets, from the hits of each
abbrev pub sets_of : List Database → List (List ℕ × List Hit) → List NamedSet
sets_of databases sets = map (named_set databases) sets

-- the database has its number among these
abbrev pub IsNumberedDatabase : List Database → Numbered → Type 0
IsNumberedDatabase databases n = slice_get databases n.number ≡ Some n.database.now

-- the databases, without their numbers
abbrev pub databases_of : List Numbered → List Database
databases_of numbered = map (λ n. n.database.now) numbered

-- the hits of the entries of a database that pass
abbrev pub hits_in : (Entry → Bool) → Numbered → List Hit
hits_in p n = map (hit n.number) (places_from p 0 n.database.now.entries)

-- the hits of the entries that pass, database by database
abbrev pub hits_by : (Entry → Bool) → List Numbered → List Hit
hits_by p numbered = flat_map (hits_in p) numbered
