-- The files that a command leaves as they are.
use Rattle.std.specs.Prelude.{◌≡◌, ℕ, Bool, false, List, Option, Some, None}
use Rattle.zmeta_args.specs.Texts.{now_of}
use Rattle.zmeta_args.specs.declared.arguments.Arguments.{Arguments}
use Rattle.zmeta_args.specs.declared.arguments.Arguments.TheVariants.{Join, Run, Ask, Replay, Loop}
use Rattle.zmeta_devices.specs.Devices.{Streams}
use Rattle.zmeta_devices.specs.Files.{Files}
use Rattle.zmeta_devices.specs.declared.fault.Status.{Status}
use Rattle.zmeta_commands.specs.Arguments.{AfterCall}
use Rattle.zmeta_commands.specs.Serve.{Serves}

-- the path of the file that a command saves, if there is one
abbrev pub saved_by : Arguments → Option (List ℕ)
saved_by (Join first others saved quiet view) = now_of saved
saved_by (Run world saved search view) = now_of saved
saved_by (Ask world saved trace at_once only options search view) = now_of saved
saved_by (Replay trace saved view) = now_of saved
saved_by (Loop world saved search view) = now_of saved
saved_by _ = None

-- the path of the trace that it writes, if there is one
abbrev pub traced_by : Arguments → Option (List ℕ)
traced_by (Ask world saved trace at_once only options search view) = now_of trace
traced_by _ = None

-- the path, if there is one, is known to be that of another file
abbrev pub IsOther : (List ℕ → List ℕ → Option Bool) → Option (List ℕ) → List ℕ → Type 0
IsOther are_one None other = Unit {0}
IsOther are_one (Some path) other = are_one path other ≡ Some false

-- at each path of another file than these two stands what stood there
pub record AreLeft (old new : Files) (saved trace : Option (List ℕ)) : Type 0 where
  pub same : new.are_one ≡ old.are_one
  pub left : (other : List ℕ) → IsOther old.are_one saved other → IsOther old.are_one trace other
      → new.octets other ≡ old.octets other

-- Whatever a command does, and however it ends: at each path of another file than those of `--save` and `--trace`
-- stands what stood there. `Stream` are the streams of the system, and `serves` is how it serves a target.
abbrev pub OtherFilesLaw : Type 0 → Serves → Type 0
OtherFilesLaw Stream serves =
    (asked : Arguments) (old new : Files) (before after : Streams) (status : Status)
    → AfterCall Stream serves asked old new before after status
    → AreLeft old new (saved_by asked) (traced_by asked)
