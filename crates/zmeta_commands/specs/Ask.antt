-- What `ask` prints and reports for a world file, and how it ends.
use Rattle.std.specs.Prelude.{◌≡◌, ◌⊎◌, ℕ, List, [], Option, Some, Result, Ok, Err}
use Rattle.zmarc.specs.declared.charset.Charset.{Charset}
use Rattle.zmeta_args.specs.declared.arguments.View.{View}
use Rattle.zmeta_world.specs.declared.world.World.{World}
use Rattle.zmeta_world.specs.declared.network.NetworkRun.{NetworkRun}
use Rattle.zmeta_world.specs.Worlds.{IsRefused}
use Rattle.zmeta_world.specs.Search.{SearchTexts}
use Rattle.zmeta_world.specs.NetworkRuns.{IsNetworkRun, IsFirstTargetLine}
use Rattle.zoom.specs.Asking.{IsAsked}
use Rattle.zoom.specs.HostWaits.{HostWaits}
use Rattle.zoom.specs.Notice.{Notice}
use Rattle.zmeta_commands.specs.Choice.{ChoiceTexts, IsChosen}
use Rattle.zmeta_offline.specs.Names.{AreAllKnown, IsFirstUnknown}
use Rattle.zmeta_devices.specs.declared.fault.Fault.{Fault}
use Rattle.zmeta_devices.specs.declared.fault.Fault.TheVariants.{Read, Write, Line, Query, Wanted, Syntax, NoQuestion, Memory}
use Rattle.zmeta_commands.specs.declared.finished.Finished.{Finished}
use Rattle.zmeta_commands.specs.Worlds.{IsSearchedFile, IsSearchRefusal}
use Rattle.zmeta_commands.specs.Finished.{asker, IsListed}

-- ---- the world of a file

-- the program has this network plan for some world
abbrev pub CanBeAsked : NetworkRun → Type 0
CanBeAsked e = (world : World) × IsNetworkRun asker world e

-- the file has a world with this network plan, once the search is put to its questions
abbrev pub IsNetworkFile : SearchTexts → List ℕ → NetworkRun → Type 0
IsNetworkFile search file e = (world : World) × IsSearchedFile search file world × IsNetworkRun asker world e

-- the line is refused: by itself, or as the first question that goes to a target in memory
abbrev pub IsLineUnasked : SearchTexts → List ℕ → ℕ → Type 0
IsLineUnasked search file number =
    IsRefused file number ⊎ ((world : World) × IsSearchedFile search file world
    × IsFirstTargetLine world.hosts world.questions number)

-- the network plan of a file, or what is refused
abbrev pub ReadNetworkResult : SearchTexts → List ℕ → Result NetworkRun Fault → Type 0
ReadNetworkResult search file (Ok e) = IsNetworkFile search file e
ReadNetworkResult search file (Err (Line number)) = IsLineUnasked search file number
ReadNetworkResult search file (Err Memory) = Unit {0}
ReadNetworkResult search file (Err f) = IsSearchRefusal search f

-- ---- hosts that were asked

-- the questions of a plan with one of these addresses were put to its host, of which this was noticed, with the waiting
-- times that hosts have of their own; and the list has the facts, by the character sets that are known
pub record IsAskedAt (choice : ChoiceTexts) (waits : List HostWaits) (chosen : List (Option (List ℕ))) (view : View)
    (charsets : List (Option Charset)) (e : NetworkRun) (r : Finished) : Type 0 where
  pub asked : IsAsked e.questions e.settings choice.manner choice.limits waits chosen r.meta
  pub noticed : List Notice
  pub listed : IsListed choice.limits waits noticed r.meta e.names chosen view charsets r

-- each given name is a question's, and each chosen question was put to its host so
pub record IsAskedOf (choice : ChoiceTexts) (waits : List HostWaits) (view : View) (charsets : List (Option Charset))
    (e : NetworkRun) (r : Finished) : Type 0 where
  pub known : AreAllKnown choice.only e.names
  pub chosen : List (Option (List ℕ))
  pub picks : IsChosen choice.only e.names e.addresses chosen
  pub put : IsAskedAt choice waits chosen view charsets e r

-- the hosts of the file were asked
abbrev pub AreAsked : ChoiceTexts → SearchTexts → View → List ℕ → Finished → Type 0
AreAsked choice search view file r = (e : NetworkRun) × IsNetworkFile search file e × IsAskedOf choice [] view [] e r

-- the name is the first that no question of the file has
abbrev pub HasNoQuestion : List (List ℕ) → SearchTexts → List ℕ → List ℕ → Type 0
HasNoQuestion only search file name =
    (e : NetworkRun) × IsNetworkFile search file e × IsFirstUnknown only e.names name

-- the finished connections of the hosts of a file, or why they were not asked
abbrev pub AskFileResult : ChoiceTexts → SearchTexts → View → List ℕ → Result Finished Fault → Type 0
AskFileResult choice search view file (Ok r) = AreAsked choice search view file r
AskFileResult choice search view file (Err (Line number)) = IsLineUnasked search file number
AskFileResult choice search view file (Err (NoQuestion unknown)) = HasNoQuestion choice.only search file unknown.now
AskFileResult choice search view file (Err (Write path)) = Unit {0}
AskFileResult choice search view file (Err Memory) = Unit {0}
AskFileResult choice search view file (Err f) = IsSearchRefusal search f

-- the finished connections of a network plan whose hosts have these waiting times of their own, or why they were not
-- asked; no character set is known of their records
abbrev pub AskNetworkResult : ChoiceTexts → List HostWaits → View → NetworkRun → Result Finished Fault → Type 0
AskNetworkResult choice waits view e (Ok r) = IsAskedOf choice waits view [] e r
AskNetworkResult choice waits view e (Err (NoQuestion unknown)) = IsFirstUnknown choice.only e.names unknown.now
AskNetworkResult choice waits view e (Err (Write path)) = Unit {0}
AskNetworkResult choice waits view e (Err Memory) = Unit {0}
AskNetworkResult choice waits view e (Err _) = ⊥

-- a fault that can end asking the hosts of the file at a path, with a trace at another, if there is one
abbrev pub IsOfAsking : Option (List ℕ) → List ℕ → Fault → Type 0
IsOfAsking trace path (Read failed) = failed.now ≡ path
IsOfAsking trace path (Write failed) = Some failed.now ≡ trace
IsOfAsking trace path (Line number) = Unit {0}
IsOfAsking trace path (NoQuestion unknown) = Unit {0}
IsOfAsking trace path (Query kind at text) = Unit {0}
IsOfAsking trace path (Wanted text) = Unit {0}
IsOfAsking trace path (Syntax text) = Unit {0}
IsOfAsking trace path Memory = Unit {0}
IsOfAsking trace path _ = ⊥
