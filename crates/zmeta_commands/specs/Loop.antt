-- What `loop` prints and reports for a world file, and how it ends.
use Rattle.std.specs.Prelude.{◌≡◌, ℕ, List, Result, Ok, Err}
use Rattle.zmeta_args.specs.declared.arguments.View.{View}
use Rattle.zmeta_world.specs.declared.in_memory.InMemoryRun.{InMemoryRun}
use Rattle.zmeta_world.specs.Search.{SearchTexts}
use Rattle.zoom.specs.Loopback.{IsLoopbackRun}
use Rattle.zmeta_commands.specs.Worlds.{IsSearchRefusal}
use Rattle.zmeta_devices.specs.declared.fault.Fault.{Fault}
use Rattle.zmeta_devices.specs.declared.fault.Fault.TheVariants.{Read, Line, Query, Wanted, Syntax, Serve, Memory}
use Rattle.zmeta_commands.specs.declared.finished.Finished.{Finished}
use Rattle.zmeta_commands.specs.Finished.{Command, AfterCommand}
use Rattle.zmeta_commands.specs.Run.{IsInMemoryFile, IsLineAtFault, IsListedRun}

-- the connections could not be made, or no memory was found
abbrev pub IsOfNetwork : Fault → Type 0
IsOfNetwork Serve = Unit {0}
IsOfNetwork Memory = Unit {0}
IsOfNetwork _ = ⊥

-- a fault that can end running the world of the file at a path
abbrev pub IsOfLoop : List ℕ → Fault → Type 0
IsOfLoop path (Read failed) = failed.now ≡ path
IsOfLoop path (Line number) = Unit {0}
IsOfLoop path (Query kind at text) = Unit {0}
IsOfLoop path (Wanted text) = Unit {0}
IsOfLoop path (Syntax text) = Unit {0}
IsOfLoop path Serve = Unit {0}
IsOfLoop path Memory = Unit {0}
IsOfLoop path _ = ⊥

-- the file has a world with an in-memory plan
abbrev pub HasInMemoryRun : SearchTexts → List ℕ → Type 0
HasInMemoryRun search file = (a : InMemoryRun) × IsInMemoryFile search file a

-- The plan was run over streams of type S, and the list has the facts. A connection was stopped only if a piece of its
-- own did not arrive, or after the most rounds.
abbrev pub IsListedLoop : Type 0 → View → InMemoryRun → Finished → Type 0
IsListedLoop S view a r = IsListedRun view a r × IsLoopbackRun S a.questions a.settings a.targets r.meta

-- the world of the file was run so
abbrev pub IsFileLoop : Type 0 → SearchTexts → View → List ℕ → Finished → Type 0
IsFileLoop S search view file r = (a : InMemoryRun) × IsInMemoryFile search file a × IsListedLoop S view a r

-- the finished connections of the world of a file, or why it was not run
abbrev pub LoopFileResult : Type 0 → SearchTexts → View → List ℕ → Result Finished Fault → Type 0
LoopFileResult S search view file (Ok r) = IsFileLoop S search view file r
LoopFileResult S search view file (Err (Line number)) = IsLineAtFault search file number
LoopFileResult S search view file (Err Serve) = HasInMemoryRun search file
LoopFileResult S search view file (Err Memory) = Unit {0}
LoopFileResult S search view file (Err f) = IsSearchRefusal search f

-- the folder, the streams and the status after `loop`, over streams of type S
abbrev pub AfterLoop : Type 0 → SearchTexts → View → Command
AfterLoop S search view = AfterCommand (LoopFileResult S search view) IsOfLoop
