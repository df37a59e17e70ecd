-- What `run` prints and reports for a world file, and how it ends.
use Rattle.std.specs.Prelude.{◌⊎◌, ℕ, List, [], Result, Ok, Err}
use Rattle.zmeta_args.specs.declared.arguments.View.{View}
use Rattle.zmeta_world.specs.declared.world.World.{World}
use Rattle.zmeta_world.specs.declared.in_memory.InMemoryRun.{InMemoryRun}
use Rattle.zmeta_world.specs.Worlds.{IsRefused}
use Rattle.zmeta_world.specs.Search.{SearchTexts}
use Rattle.zmeta_world.specs.InMemoryRuns.{IsInMemoryRun, IsFirstHostLine}
use Rattle.zoom.specs.Limits.{Limits}
use Rattle.zoom.specs.Run.{IsRun}
use Rattle.zoom.specs.RunMade.{IsMovedRunInMemory}
use Rattle.zoom.specs.RunRounds.{IsCompleteRun}
use Rattle.zmeta_devices.specs.declared.fault.Fault.{Fault}
use Rattle.zmeta_devices.specs.declared.fault.Fault.TheVariants.{Line, Memory}
use Rattle.zmeta_commands.specs.declared.finished.Finished.{Finished}
use Rattle.zmeta_commands.specs.Worlds.{IsSearchedFile, IsSearchRefusal}
use Rattle.zmeta_commands.specs.Finished.{asker, IsListed, IsOfSearchedWorld, Command, AfterCommand}

-- ---- the world of a file

-- the file has a world with this in-memory plan, once the search is put to its questions
abbrev pub IsInMemoryFile : SearchTexts → List ℕ → InMemoryRun → Type 0
IsInMemoryFile search file a = (world : World) × IsSearchedFile search file world × IsInMemoryRun asker world a

-- the line is refused: by itself, or as the first question that goes to a host
abbrev pub IsLineAtFault : SearchTexts → List ℕ → ℕ → Type 0
IsLineAtFault search file number =
    IsRefused file number ⊎ ((world : World) × IsSearchedFile search file world
    × IsFirstHostLine world.targets world.questions number)

-- the in-memory plan of a file, or what is refused
abbrev pub ReadInMemoryResult : SearchTexts → List ℕ → Result InMemoryRun Fault → Type 0
ReadInMemoryResult search file (Ok a) = IsInMemoryFile search file a
ReadInMemoryResult search file (Err (Line number)) = IsLineAtFault search file number
ReadInMemoryResult search file (Err Memory) = Unit {0}
ReadInMemoryResult search file (Err f) = IsSearchRefusal search f

-- ---- a world that was run

-- the plan was run: each target was asked its question, and the list has the facts; nothing was noticed of a host
abbrev pub IsListedRun : View → InMemoryRun → Finished → Type 0
IsListedRun view a r = IsRun a.questions a.settings a.targets r.meta
    × ((limits : Limits) × IsListed limits [] [] r.meta a.names [] view [] r)

-- the plan was run, and each exchange was complete unless a reply was longer than a message may be; the run began with
-- the moves of the plan, in order
pub record IsCompleteListedRun (view : View) (a : InMemoryRun) (r : Finished) : Type 0 where
  pub listed : IsListedRun view a r
  pub whole : IsCompleteRun a.questions a.settings a.targets r.meta
  pub moved : IsMovedRunInMemory a.questions a.settings a.targets a.moves r.meta

-- the world of the file was run by its moves, and each exchange was complete in the same sense
abbrev pub IsCompleteFileRun : SearchTexts → View → List ℕ → Finished → Type 0
IsCompleteFileRun search view file r = (a : InMemoryRun) × IsInMemoryFile search file a × IsCompleteListedRun view a r

-- the finished connections of the world of a file, or why it was not run
abbrev pub RunFileResult : SearchTexts → View → List ℕ → Result Finished Fault → Type 0
RunFileResult search view file (Ok r) = IsCompleteFileRun search view file r
RunFileResult search view file (Err (Line number)) = IsLineAtFault search file number
RunFileResult search view file (Err Memory) = Unit {0}
RunFileResult search view file (Err f) = IsSearchRefusal search f

-- ---- the command

-- the folder, the streams and the status after `run`
abbrev pub AfterRun : SearchTexts → View → Command
AfterRun search view = AfterCommand (RunFileResult search view) IsOfSearchedWorld
