-- What `catalogues` prints and reports of a file.
use Rattle.std.specs.Prelude.{◌≡◌, ℕ, List, [], ◌∷◌, ◌++◌, length, Option, Result, Ok, Err, MatchResult, IfSome, IfErr}
use Rattle.zmeta_catalogues.specs.declared.catalogue.Catalogue.{Catalogue}
use Rattle.zmeta_catalogues.specs.Files.{AreCataloguesOf}
use Rattle.zmeta_catalogues.specs.declared.error.CatalogueError.{CatalogueError}
use Rattle.zmeta_catalogues.specs.FileErrors.{IsRefused}
use Rattle.zmeta_catalogues.specs.Mistakes.{AreMistakesOfFile}
use Rattle.zmeta_devices.specs.Devices.{Device, Outputs, HasGained, PutFailure, AfterTellLines, AfterEnd}
use Rattle.zmeta_devices.specs.declared.fault.Fault.{Fault}
use Rattle.zmeta_devices.specs.declared.fault.Fault.TheVariants.{Read, Write, Memory}
use Rattle.zmeta_devices.specs.declared.fault.Status.{Status}
use Rattle.zmeta_devices.specs.declared.fault.Status.TheVariants as statuses
use Rattle.zmeta_catalogue_files.specs.Lines.{catalogue_lines}
use Rattle.zmeta_catalogue_files.specs.Refusals.{file_lines}

-- the text is that of the catalogues of the file
pub record IsListing (octets text : List ℕ) : Type 0 where
  pub list : List Catalogue
  pub are : AreCataloguesOf octets list
  pub text_is : text ≡ catalogue_lines list

-- so many lines of errors were appended
abbrev pub HasErrorLines : List ℕ → ℕ → List ℕ → List ℕ → Type 0
HasErrorLines path n old new = (texts : List (List ℕ)) × (length texts ≡ n) × (new ≡ old ++ file_lines path texts)

-- how many lines tell the mistakes of a file that is refused: one for each; if none is listed, one for the error that
-- refuses it
abbrev pub lines_for : List CatalogueError → ℕ
lines_for [] = 1
lines_for (e ∷ es) = length (e ∷ es)

-- so many errors are told of a file with these octets: every mistake of it, and no other
abbrev pub AreToldOf : List ℕ → ℕ → Type 0
AreToldOf octets n = (mistakes : List CatalogueError) × AreMistakesOfFile octets mistakes × (n ≡ lines_for mistakes)

-- the mistakes of the file at this path, with these octets, were told, each in a line, unless a call of the stream
-- failed
pub record HasTold (path octets : List ℕ) (old new : Device) : Type 0 where
  pub texts : List (List ℕ)
  pub each : AreToldOf octets (length texts)
  pub told : AfterTellLines old new (file_lines path texts)

-- the text was printed, or a front of it if the stream failed
abbrev pub PutTextResult : List ℕ → Device → Device → Result Status Fault → Type 0
PutTextResult text old new result =
    MatchResult result (λ status. (status ≡ statuses.Done) × HasGained old new text) (PutFailure old new text)

-- the lines of the catalogues were printed, a front of them if the stream failed, or nothing if no memory was found
abbrev pub PutListResult : List Catalogue → Device → Device → Result Status Fault → Type 0
PutListResult cs old new (Ok status) = (status ≡ statuses.Done) × HasGained old new (catalogue_lines cs)
PutListResult cs old new (Err (Write failed)) = PutFailure old new (catalogue_lines cs) (Write failed)
PutListResult cs old new (Err Memory) = new ≡ old
PutListResult cs old new (Err _) = ⊥

-- the mistakes were told, or nothing if no memory was found
abbrev pub TellResult : List ℕ → List ℕ → Device → Device → Result Status Fault → Type 0
TellResult path octets old new (Ok status) = (status ≡ statuses.Refused) × HasTold path octets old new
TellResult path octets old new (Err f) = (f ≡ Memory) × (new ≡ old)

-- both streams are as they were
abbrev pub AreSame : Outputs → Outputs → Type 0
AreSame before after = (after.output ≡ before.output) × (after.errors ≡ before.errors)

-- The result of `catalogues`, by the octets of the file: its catalogues are printed, a front of that if the stream
-- failed; or nothing is printed, and each of its mistakes is told.
abbrev pub ListResult : List ℕ → List ℕ → Outputs → Outputs → Result Status Fault → Type 0
ListResult path octets before after (Ok statuses.Done) =
    (text : List ℕ) × IsListing octets text × HasGained before.output after.output text
    × (after.errors ≡ before.errors)
ListResult path octets before after (Ok statuses.Refused) =
    IsRefused octets × (after.output ≡ before.output) × HasTold path octets before.errors after.errors
ListResult path octets before after (Ok _) = ⊥
ListResult path octets before after (Err (Write failed)) =
    (text : List ℕ) × IsListing octets text × PutFailure before.output after.output text (Write failed)
    × (after.errors ≡ before.errors)
ListResult path octets before after (Err (Read failed)) = AreSame before after
ListResult path octets before after (Err Memory) = AreSame before after
ListResult path octets before after (Err _) = ⊥

-- a fault of the file at this path, or of the stream
abbrev pub IsListFault : List ℕ → Fault → Type 0
IsListFault path (Read failed) = failed.now ≡ path
IsListFault path (Write failed) = Unit {0}
IsListFault path Memory = Unit {0}
IsListFault path _ = ⊥

-- the streams and the status after `catalogues`, by the path of the file and its octets, if they are known; `between`
-- is standard error before a fault is reported
abbrev pub AfterCatalogues : List ℕ → Option (List ℕ) → Outputs → Outputs → Status → Type 0
AfterCatalogues path octets before after status = (result : Result Status Fault) × (between : Device)
    × IfSome octets (λ octets. ListResult path octets before (record after { errors = between }) result)
    × IfErr result (IsListFault path) × AfterEnd result between after.errors status
