-- The parts of targets, as the reader keeps them.
use Rattle.std.specs.Prelude.{ℕ, List, [], Option, Some, None}
use Rattle.ztarget.specs.declared.database.Database.{Database}
use Rattle.ztarget.specs.declared.database.Entry.{Entry}
use Rattle.ztarget.specs.declared.database.Field.{Field}
use Rattle.ztarget.specs.declared.settings.TargetSettings.{TargetSettings}
use Rattle.zmeta_world.specs.declared.world.NamedTarget.{NamedTarget}

-- the list, empty if there is none yet
abbrev pub list_of : {A : Type 0} → Option (List A) → List A
list_of None = []
list_of (Some xs) = xs

-- a record with these fields
abbrev pub entry : List ℕ → List ℕ → List Field → Entry
entry syntax octets fields = record { syntax = syntax; octets = octets; fields = fields }

-- a database with these records
abbrev pub database : List ℕ → List Entry → Database
database name entries = record { name = name; entries = entries }

-- a target with these databases
abbrev pub target : List ℕ → TargetSettings → List Database → NamedTarget
target name settings databases = record { name = name; settings = settings; databases = databases }
