-- The files that a command is to write: their paths, and what is begun before anybody is asked.
use Rattle.std.specs.Prelude.{◌≡◌, ◌⊎◌, ℕ, true, false, List, Option, Some, None, Result, Ok, Err}
use Rattle.zmeta_devices.specs.Devices.{Outputs, AfterEnd}
use Rattle.zmeta_devices.specs.Files.{Files, FileSteps, WasTaken, with_draft, IsLogged}
use Rattle.zmeta_devices.specs.Files.FileStep.{logged}
use Rattle.zmeta_devices.specs.declared.fault.Fault.{Fault}
use Rattle.zmeta_devices.specs.declared.fault.Fault.TheVariants.{Write, Overwrite, Memory}
use Rattle.zmeta_devices.specs.declared.fault.Status.{Status}

-- ---- paths

-- the two paths may be those of one file: it is not known that they are not
abbrev pub MayBeOne : Files → List ℕ → List ℕ → Type 0
MayBeOne s one other = s.are_one one other ≡ Some false → ⊥

-- the path that is written, if there is one, is not known to be that of the file at the other
abbrev pub AreApart : Files → List ℕ → Option (List ℕ) → Type 0
AreApart s read None = Unit {0}
AreApart s read (Some written) = s.are_one read written ≡ Some true → ⊥

-- this is the path that is written, and it may be that of the file at the other
abbrev pub IsOver : Files → List ℕ → Option (List ℕ) → List ℕ → Type 0
IsOver s read None failed = ⊥
IsOver s read (Some written) failed = (failed ≡ written) × MayBeOne s read written

-- the path that is written is apart, or would be written over the other
abbrev pub ApartResult : Files → List ℕ → Option (List ℕ) → Result (Unit {0}) Fault → Type 0
ApartResult s read written (Ok u) = AreApart s read written
ApartResult s read written (Err (Overwrite failed)) = IsOver s read written failed.now
ApartResult s read written (Err _) = ⊥

-- the same, if there is another
abbrev pub AreApartIf : Files → Option (List ℕ) → Option (List ℕ) → Type 0
AreApartIf s None written = Unit {0}
AreApartIf s (Some other) written = AreApart s other written

abbrev pub IsOverIf : Files → Option (List ℕ) → Option (List ℕ) → List ℕ → Type 0
IsOverIf s None written failed = ⊥
IsOverIf s (Some other) written failed = IsOver s other written failed

-- the trace is apart from the file that is read, and from the saved file; or it would be written over one of them
pub record IsTraceApart (s : Files) (read : List ℕ) (saved trace : Option (List ℕ)) : Type 0 where
  pub world : AreApart s read trace
  pub file : AreApartIf s saved trace

abbrev pub IsTraceOver : Files → List ℕ → Option (List ℕ) → Option (List ℕ) → Fault → Type 0
IsTraceOver s read saved trace (Overwrite failed) =
    IsOver s read trace failed.now ⊎ IsOverIf s saved trace failed.now
IsTraceOver s read saved trace _ = ⊥

abbrev pub TraceApartResult
    : Files → List ℕ → Option (List ℕ) → Option (List ℕ) → Result (Unit {0}) Fault → Type 0
TraceApartResult s read saved trace (Ok u) = IsTraceApart s read saved trace
TraceApartResult s read saved trace (Err f) = IsTraceOver s read saved trace f

-- ---- the saved file

-- the folder, once a draft was begun of the file to be saved, if there is one
abbrev pub begun_in : Files → Option (List ℕ) → Files
begun_in s None = s
begun_in s (Some path) = with_draft s path

-- why no draft was begun: it would be written over the file that is read, or cannot be written, or no memory was found
abbrev pub IsSavingFault : Files → List ℕ → Option (List ℕ) → Fault → Type 0
IsSavingFault s read saved (Overwrite failed) = IsOver s read saved failed.now
IsSavingFault s read saved (Write failed) = Some failed.now ≡ saved
IsSavingFault s read saved Memory = Unit {0}
IsSavingFault s read saved _ = ⊥

-- the draft was begun, or why not
abbrev pub BeginSavingResult
    : {A : Type 0} → Files → Files → List ℕ → Option (List ℕ) → Result A Fault → Type 0
BeginSavingResult old new read saved (Ok saving) = AreApart old read saved × (new ≡ begun_in old saved)
BeginSavingResult old new read saved (Err f) = IsSavingFault old read saved f × (new ≡ old)

-- nothing was done but to tell why
abbrev pub AfterUnbegun : (Fault → Type 0) → Files → Files → Outputs → Outputs → Status → Type 0
AfterUnbegun Is old new before after status = (f : Fault) × Is f × (new ≡ old) × (after.output ≡ before.output)
    × AfterEnd (Err f) before.errors after.errors status

-- ---- the trace

-- why a trace was not begun: it cannot be written, or no memory was found
abbrev pub IsTraceFault : Option (List ℕ) → Fault → Type 0
IsTraceFault trace (Write failed) = Some failed.now ≡ trace
IsTraceFault trace Memory = Unit {0}
IsTraceFault trace _ = ⊥

-- the log of a trace was begun, if there is a path for it; behind a fault, perhaps
abbrev pub IsTraceBegun : {A : Type 0} → Option (List ℕ) → Files → Files → Result A Fault → Type 0
IsTraceBegun None old new result = new ≡ old
IsTraceBegun (Some path) old new (Ok tracer) = IsLogged old new path
IsTraceBegun (Some path) old new (Err f) = (new ≡ old) ⊎ IsLogged old new path

-- a log was begun at the path, if there is one
abbrev pub IsOpenIf : Option (List ℕ) → FileSteps → Type 0
IsOpenIf None steps = Unit {0}
IsOpenIf (Some path) steps = WasTaken steps (logged path)
