-- What `join` prints for saved files.
use Rattle.std.specs.Prelude.{◌≡◌, ◌≢◌, ◌⊎◌, ℕ, List, [], ◌∷◌, ◌++◌, Contains, Option, None, IfSome, Result, Ok, Err, MatchResult}
use Rattle.zknow.specs.declared.fact.Fact.{Fact}
use Rattle.zmeta_args.specs.declared.arguments.View.{View}
use Rattle.zknow.specs.Facts.{AreFacts}
use Rattle.zknow.specs.Tables.Join.{IsUnion}
use Rattle.zknow.specs.Known.{HasFailure}
use Rattle.zmeta_offline.specs.Views.{printed}
use Rattle.zknow.specs.Saved.Saved.{IsSaved}
use Rattle.zknow.specs.Saved.Loaded.{IsNotKnowledge, IsNotCanonical}
use Rattle.zmeta_devices.specs.Devices.{Device, Outputs, IsUnchanged, HasGained, PutFailure, AfterReport, AfterEnd}
use Rattle.zmeta_devices.specs.Files.{Files, with_draft}
use Rattle.zmeta_offline.specs.Saved.{IsDraftFault, SaveFactsResult}
use Rattle.zmeta_devices.specs.declared.fault.Fault.{Fault}
use Rattle.zmeta_devices.specs.declared.fault.Fault.TheVariants.{Read, Write, NotKnowledge, NotCanonical}
use Rattle.zmeta_devices.specs.declared.fault.Fault.TheVariants.{NamesDiffer, Memory}
use Rattle.zmeta_devices.specs.declared.fault.Status.{Status}
use Rattle.zmeta_devices.specs.declared.fault.Status.TheVariants as statuses

-- ---- one file

-- the facts and names of a file, or why it is refused
abbrev pub LoadFileResult : List ℕ → Result (List Fact × List (List ℕ)) Fault → Type 0
LoadFileResult file (Ok r) = IsSaved r.1 r.0 file
LoadFileResult file (Err (NotKnowledge path at)) = IsNotKnowledge file at
LoadFileResult file (Err (NotCanonical path at)) = IsNotCanonical file at
LoadFileResult file (Err Memory) = Unit {0}
LoadFileResult file (Err _) = ⊥

-- a fault of the file at a path: a read of it failed, it is no saved file, or no memory was found
abbrev pub IsOfFile : List ℕ → Fault → Type 0
IsOfFile path (Read failed) = failed.now ≡ path
IsOfFile path (NotKnowledge refused at) = refused.now ≡ path
IsOfFile path (NotCanonical refused at) = refused.now ≡ path
IsOfFile path Memory = Unit {0}
IsOfFile path _ = ⊥

-- files by their paths, each with its octets if they are known
module _ (octets : List ℕ → Option (List ℕ)) where
  -- the file at the path is a saved file of these names and facts
  abbrev pub IsSavedAt : List ℕ → List (List ℕ) → List Fact → Type 0
  IsSavedAt path names facts = IfSome (octets path) (λ file. IsSaved names facts file)

  -- the fault of the file at the path; no read of one fails of which the octets are known
  abbrev pub IsFaultAt : List ℕ → Fault → Type 0
  IsFaultAt path (Read failed) = (failed.now ≡ path) × (octets path ≡ None)
  IsFaultAt path (NotKnowledge refused at) =
      (refused.now ≡ path) × IfSome (octets path) (λ file. IsNotKnowledge file at)
  IsFaultAt path (NotCanonical refused at) =
      (refused.now ≡ path) × IfSome (octets path) (λ file. IsNotCanonical file at)
  IsFaultAt path Memory = Unit {0}
  IsFaultAt path _ = ⊥

  -- the facts and names of the file at the path, or why it is refused
  abbrev pub LoadNamedResult : List ℕ → Result (List Fact × List (List ℕ)) Fault → Type 0
  LoadNamedResult path (Ok r) = IsSavedAt path r.1 r.0
  LoadNamedResult path (Err f) = IsFaultAt path f

  -- the file at the path is a saved file with other names
  pub record HasOtherNames (names : List (List ℕ)) (path : List ℕ) : Type 0 where
    pub others : List (List ℕ)
    pub facts : List Fact
    pub saved : IsSavedAt path others facts
    pub differ : names ≢ others

  -- the facts of the file at the path were added, or why not
  abbrev pub AbsorbNamedResult
      : List (List ℕ) → List ℕ → List Fact → List Fact → Result (Unit {0}) Fault → Type 0
  AbsorbNamedResult names path old new (Ok u) = (theirs : List Fact) × IsSavedAt path names theirs × AreFacts new
      × IsUnion (Contains old) (Contains theirs) (Contains new)
  AbsorbNamedResult names path old new (Err NamesDiffer) = HasOtherNames names path
  AbsorbNamedResult names path old new (Err f) = IsFaultAt path f

  -- ---- several files

  -- the files at these paths are saved files of the same names, and together have these facts
  pub data AreJoined (names : List (List ℕ)) : List (List ℕ) → List Fact → Type 0 where
    one : {facts : List Fact} (path : List ℕ) → IsSavedAt path names facts → AreJoined names (path ∷ []) facts
    more : {paths : List (List ℕ)} {facts : List Fact} (path : List ℕ) (mine theirs : List Fact)
        → AreJoined names paths mine → IsSavedAt path names theirs → AreFacts facts
        → IsUnion (Contains mine) (Contains theirs) (Contains facts) → AreJoined names (paths ++ path ∷ []) facts

  -- the fault is the first file's; or the files before some file have the same names, and the fault is that file's
  pub data IsRefusedAmong : List (List ℕ) → Fault → Type 0 where
    first : {fault : Fault} (path : List ℕ) (rest : List (List ℕ))
        → IsFaultAt path fault → IsRefusedAmong (path ∷ rest) fault
    later : {fault : Fault} (paths names rest : List (List ℕ)) (facts : List Fact) (path : List ℕ)
        → AreJoined names paths facts → IsFaultAt path fault → IsRefusedAmong (paths ++ path ∷ rest) fault
    other_names : (paths names rest : List (List ℕ)) (facts : List Fact) (path : List ℕ)
        → AreJoined names paths facts → HasOtherNames names path
        → IsRefusedAmong (paths ++ path ∷ rest) NamesDiffer

  -- the facts of the files at these paths were added to those of files before them, or why not
  abbrev pub AbsorbAllResult
      : List (List ℕ) → List (List ℕ) → List Fact → List Fact → Result (Unit {0}) Fault → Type 0
  AbsorbAllResult names paths old new (Ok u) =
      (before : List (List ℕ)) → AreJoined names before old → AreJoined names (before ++ paths) new
  AbsorbAllResult names paths old new (Err f) =
      (before : List (List ℕ)) → AreJoined names before old → IsRefusedAmong (before ++ paths) f

  -- the facts of all files together, or why one is refused
  abbrev pub LoadAllResult : List (List ℕ) → Result (List Fact × List (List ℕ)) Fault → Type 0
  LoadAllResult paths (Ok r) = AreJoined r.1 paths r.0
  LoadAllResult paths (Err f) = IsRefusedAmong paths f

  -- the list of the facts of all files together
  abbrev pub IsListOf : View → List (List ℕ) → List Fact → List ℕ → Type 0
  IsListOf view paths facts text =
      (names : List (List ℕ)) × AreJoined names paths facts × (text ≡ printed names view [] [] facts)

-- ---- the command

-- the status for these facts: whether a search or an association failed
abbrev pub IsKnownStatus : List Fact → Status → Type 0
IsKnownStatus known statuses.Failed = HasFailure known
IsKnownStatus known statuses.Done = HasFailure known → ⊥
IsKnownStatus known _ = ⊥

-- the list was written, or a front of it if the stream failed
abbrev pub PutListResult : List ℕ → Status → Device → Device → Result Status Fault → Type 0
PutListResult text status old new result =
    MatchResult result (λ s. (s ≡ status) × HasGained old new text) (PutFailure old new text)

-- the result of `join`: the list was written, a front of it if the stream failed, or nothing if a file is refused
-- or no memory was found
abbrev pub JoinResult
    : View → (List ℕ → Option (List ℕ)) → List (List ℕ) → Device → Device → Result Status Fault → Type 0
JoinResult view octets paths old new (Ok status) = (facts : List Fact) × (text : List ℕ)
    × IsListOf octets view paths facts text × IsKnownStatus facts status × HasGained old new text
JoinResult view octets paths old new (Err (Write failed)) = (facts : List Fact) × (text : List ℕ)
    × IsListOf octets view paths facts text × PutFailure old new text (Write failed)
JoinResult view octets paths old new (Err Memory) = IsUnchanged old new
JoinResult view octets paths old new (Err f) = IsRefusedAmong octets paths f × IsUnchanged old new

-- ---- the command with a file that is made

-- the list was written, a front of it if the stream failed, or nothing if no memory was found
abbrev pub ListFactsResult : List ℕ → Device → Device → Result (Unit {0}) Fault → Type 0
ListFactsResult text old new (Ok u) = HasGained old new text
ListFactsResult text old new (Err Memory) = IsUnchanged old new
ListFactsResult text old new (Err f) = PutFailure old new text f

-- the status after a list that was printed, or the fault for which it was not
abbrev pub IsListEnd : List Fact → Result (Unit {0}) Fault → Result Status Fault → Type 0
IsListEnd facts (Ok u) (Ok status) = IsKnownStatus facts status
IsListEnd facts (Ok u) (Err f) = ⊥
IsListEnd facts (Err f) result = result ≡ Err f

-- The result after the list and the file, and standard error: a fault of the file is the result, and one of the list is
-- reported then; else a fault of the list is the result.
abbrev pub IsEndOfBoth
    : List Fact → Result (Unit {0}) Fault → Result (Unit {0}) Fault → Device → Device → Result Status Fault → Type 0
IsEndOfBoth facts printed (Ok u) old new result = IsListEnd facts printed result × (new ≡ old)
IsEndOfBoth facts printed (Err f) old new result = (result ≡ Err f) × AfterReport old new printed

-- what became of the list, and, whatever that is, of the file; and the result
pub record ListAndSaveResult (names : List (List ℕ)) (facts : List Fact) (view : View) (saved : List ℕ)
    (old new : Files) (before after : Outputs) (result : Result Status Fault) : Type 0 where
  pub shown : Result (Unit {0}) Fault
  pub kept : Result (Unit {0}) Fault
  pub list : ListFactsResult (printed names view [] [] facts) before.output after.output shown
  pub file : SaveFactsResult names facts saved old new kept
  pub end : IsEndOfBoth facts shown kept before.errors after.errors result

-- Nothing was printed or saved: no draft was begun, or a file is refused. Or what became of the list and the file of all
-- facts.
abbrev pub JoinSavedResult
    : View → List (List ℕ) → List ℕ → Files → Files → Outputs → Outputs → Result Status Fault → Type 0
JoinSavedResult view paths saved old new before after result =
    ((f : Fault) × (result ≡ Err f) × IsDraftFault saved f × (new ≡ old) × (after ≡ before))
    ⊎ ((f : Fault) × (result ≡ Err f) × IsRefusedAmong old.octets paths f × (new ≡ with_draft old saved)
    × (after ≡ before))
    ⊎ ((names : List (List ℕ)) × (facts : List Fact) × AreJoined old.octets names paths facts
    × ListAndSaveResult names facts view saved (with_draft old saved) new before after result)

-- the folder, the streams and the status after `join` with a file that is made; `between` is standard error before a
-- fault is reported
abbrev pub AfterJoinSaved
    : View → List (List ℕ) → List ℕ → Files → Files → Outputs → Outputs → Status → Type 0
AfterJoinSaved view paths saved old new before after status = (result : Result Status Fault) × (between : Device)
    × JoinSavedResult view paths saved old new before (record after { errors = between }) result
    × AfterEnd result between after.errors status
