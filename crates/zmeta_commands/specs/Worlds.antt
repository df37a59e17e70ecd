-- World files, as the commands read them.
use Rattle.std.specs.Prelude.{◌≡◌, ◌⊎◌, ℕ, List, Option, None, Result, Ok, Err}
use Rattle.std.specs.Borrow.{Bor}
use Rattle.zmeta_args.specs.Texts.{now_of}
use Rattle.zmeta_args.specs.declared.arguments.SearchOptions.{SearchOptions}
use Rattle.zmeta_devices.specs.Faults.{of_options}
use Rattle.zmeta_world.specs.declared.world.World.{World}
use Rattle.zmeta_world.specs.Worlds.{IsWorld, IsRefused}
use Rattle.zmeta_world.specs.Search.{SearchTexts, IsWorldWith, IsSearchFault}
use Rattle.zmeta_world.specs.declared.network.NetworkRun.{NetworkRun}
use Rattle.zmeta_world.specs.NetworkRuns.{IsNetworkRun, IsFirstTargetLine}
use Rattle.zmeta_world.specs.declared.search.SearchError.TheVariants as searches
use Rattle.zmeta_devices.specs.declared.fault.Fault.{Fault}
use Rattle.zmeta_devices.specs.declared.fault.Fault.TheVariants.{Line, Query, Wanted, Syntax, Memory}
use Rattle.zmeta_commands.specs.Finished.{asker}

-- the world of a file, or the line that is refused
abbrev pub WorldResult : List ℕ → Result World Fault → Type 0
WorldResult file (Ok world) = IsWorld file world
WorldResult file (Err (Line number)) = IsRefused file number
WorldResult file (Err Memory) = Unit {0}
WorldResult file (Err _) = ⊥

-- the world of a file, with the search put to every question
abbrev pub IsSearchedFile : SearchTexts → List ℕ → World → Type 0
IsSearchedFile search file put = (world : World) × IsWorld file world × IsWorldWith search world put

-- the text is this one of the search, or none is told
abbrev pub IsTextOf : Option (List ℕ) → Option (Bor (List ℕ)) → Type 0
IsTextOf of text = (now_of text ≡ None) ⊎ (now_of text ≡ of)

-- a text of the search is at fault: its query, its wanted positions or its record syntax
abbrev pub IsSearchRefusal : SearchTexts → Fault → Type 0
IsSearchRefusal search (Query kind at text) =
    IsSearchFault search (searches.Query kind at) × IsTextOf search.query text
IsSearchRefusal search (Wanted text) = IsSearchFault search searches.Records × IsTextOf search.records text
IsSearchRefusal search (Syntax text) = IsSearchFault search searches.Syntax × IsTextOf search.syntax text
IsSearchRefusal search _ = ⊥

-- the world of a file with the search put to every question, or what is refused
abbrev pub SearchedResult : SearchTexts → List ℕ → Result World Fault → Type 0
SearchedResult search file (Ok put) = IsSearchedFile search file put
SearchedResult search file (Err (Line number)) = IsRefused file number
SearchedResult search file (Err Memory) = Unit {0}
SearchedResult search file (Err f) = IsSearchRefusal search f

-- the result with the text of the option that its fault speaks of
abbrev pub told_of : SearchOptions → Result World Fault → Result World Fault
told_of s (Ok world) = Ok world
told_of s (Err f) = Err (of_options s f)

-- ---- a network plan

-- the network plan of a world, or the line of the first question that goes to a target in memory
abbrev pub PlanResult : World → Result NetworkRun Fault → Type 0
PlanResult world (Ok e) = IsNetworkRun asker world e
PlanResult world (Err (Line number)) = IsFirstTargetLine world.hosts world.questions number
PlanResult world (Err Memory) = Unit {0}
PlanResult world (Err _) = ⊥
