-- The merge of saved files into one that is made.
use Rattle.std.specs.Prelude.{◌≡◌, ◌≢◌, ℕ, ◌<◌, Bool, true, false, List, ◌++◌, length, map, vec_len, Contains, slice_index_or, Option, None, Result, Ok, Err, IfSome}
use Rattle.std.specs.Io.KnownBytes.{Appends, Consumes, IsAtEnd}
use Rattle.zknow.specs.Saved.Loaded.{IsNotKnowledge, IsNotCanonical}
use Rattle.zknow_merge.specs.Inputs.{Input, input_at}
use Rattle.zknow_merge.specs.Joins.{HasNames, IsJoin}
use Rattle.zknow_merge.specs.Merges.{IsMerge, IsStep}
use Rattle.zknow_merge.specs.declared.step.Step.{Step}
use Rattle.zmeta_devices.specs.Devices.{Device, InputDevice, AfterEnd}
use Rattle.zmeta_devices.specs.Faults.{as_done}
use Rattle.zmeta_devices.specs.Files.{Files, FileSteps, IsDraft, with_draft, IsNewFile, IsUnmade}
use Rattle.zmeta_devices.specs.declared.fault.Fault.{Fault}
use Rattle.zmeta_devices.specs.declared.fault.Fault.TheVariants.{Read, Write, NotKnowledge, NotCanonical, NamesDiffer, Memory}
use Rattle.zmeta_devices.specs.declared.fault.Status.{Status}
use Rattle.zmeta_offline.specs.declared.merged.Merging.{Merging}

-- ---- streams of saved files

-- the stream of the file at a path, which was not read yet
abbrev pub stream_at : (List ℕ → Option (List ℕ)) → List ℕ → InputDevice
stream_at octets path = record { known = octets path; path = path; has_failed = false }

-- those of the files at these paths
abbrev pub streams_at : (List ℕ → Option (List ℕ)) → List (List ℕ) → List InputDevice
streams_at octets paths = map (stream_at octets) paths

-- the file is what the stream with this number has, if that is known
abbrev pub IsFileAt : List InputDevice → ℕ → List ℕ → Type 0
IsFileAt streams k file = (d : InputDevice) → IfSome (slice_index_or streams k d).known (λ known. file ≡ known)

-- the join of the files that the streams have
pub record IsJoinOf (streams : List InputDevice) (join : List ℕ) : Type 0 where
  pub files : List (List ℕ)
  pub size : length files ≡ length streams
  pub each : (k : ℕ) (d : List ℕ) → k < length streams → IsFileAt streams k (slice_index_or files k d)
  pub is : IsJoin files join

-- the stream with this number is a saved file with these names
abbrev pub IsSavedFile : List InputDevice → List (List ℕ) → ℕ → Type 0
IsSavedFile streams names k = (file : List ℕ) × IsFileAt streams k file × HasNames names file

-- those before this one are saved files with these names
abbrev pub AreSavedFiles : List InputDevice → List (List ℕ) → ℕ → Type 0
AreSavedFiles streams names count = (k : ℕ) → k < count → IsSavedFile streams names k

-- ---- why files are refused

-- the stream is no saved file, for the reason that the fault gives
abbrev pub IsStreamFault : InputDevice → Fault → Type 0
IsStreamFault s (NotKnowledge path at) = (path.now ≡ s.path) × IfSome s.known (λ file. IsNotKnowledge file at)
IsStreamFault s (NotCanonical path at) = (path.now ≡ s.path) × IfSome s.known (λ file. IsNotCanonical file at)
IsStreamFault s _ = ⊥

-- the first stream that is refused is no saved file; those before it are, with the same names
pub record IsFirstRefused (streams : List InputDevice) (f : Fault) : Type 0 where
  pub number : ℕ
  pub among : number < length streams
  pub names : List (List ℕ)
  pub before : AreSavedFiles streams names number
  pub is : (d : InputDevice) → IsStreamFault (slice_index_or streams number d) f

-- the first stream that is refused is a saved file with other names than those before it
pub record HasOthers (streams : List InputDevice) : Type 0 where
  pub number : ℕ
  pub among : number < length streams
  pub some : 0 < number
  pub names : List (List ℕ)
  pub before : AreSavedFiles streams names number
  pub others : List (List ℕ)
  pub file : IsSavedFile streams others number
  pub differ : others ≢ names

-- why no file is made: a stream is refused; a read of one failed, of which it is not known what it has; what was merged
-- could not be written; or no memory was found
abbrev pub IsMergeFault : List InputDevice → List ℕ → Fault → Type 0
IsMergeFault streams saved (Read failed) =
    (s : InputDevice) × Contains streams s × (failed.now ≡ s.path) × (s.known ≡ None)
IsMergeFault streams saved (Write failed) = failed.now ≡ saved
IsMergeFault streams saved NamesDiffer = HasOthers streams
IsMergeFault streams saved Memory = Unit {0}
IsMergeFault streams saved f = IsFirstRefused streams f

-- ---- steps

-- the stream was read so far: the input has what was taken of it
pub record IsReadTo (start now : InputDevice) (i : Input) : Type 0 where
  pub path : now.path ≡ start.path
  pub taken : Consumes start.known now.known i.octets
  pub ended : i.ended ≡ true → IsAtEnd now.known

-- each stream was read so far
abbrev pub AreReadTo : List InputDevice → List InputDevice → List Input → Type 0
AreReadTo starts now inputs = (k : ℕ) (d e : InputDevice) → k < length starts
    → IsReadTo (slice_index_or starts k d) (slice_index_or now k e) (input_at inputs k)

-- The streams were merged so far. What was handed out is what the draft has gained, and then what is not written yet.
pub record IsMerging (starts now : List InputDevice) (begun held : Option (List ℕ)) (m : Merging) : Type 0 where
  pub inputs : List Input
  pub handed : List ℕ
  pub done : List ℕ
  pub size : length inputs ≡ length starts
  pub same : length now ≡ length starts
  pub room : 0 < vec_len m.piece
  pub merge : IsMerge inputs handed m.merge
  pub read : AreReadTo starts now inputs
  pub cut : handed ≡ done ++ m.merged.items
  pub draft : Appends begun held done

-- the streams were merged so far, and the merge says this of them
pub record IsDue (starts now : List InputDevice) (begun held : Option (List ℕ)) (m : Merging) (step : Step)
    : Type 0 where
  pub merging : IsMerging starts now begun held m
  pub means : IsStep merging.inputs merging.handed step

-- the streams are being merged, from some start
abbrev pub HasBegun : List InputDevice → Option (List ℕ) → Merging → Type 0
HasBegun now held m = (starts : List InputDevice) × (begun : Option (List ℕ)) × IsMerging starts now begun held m

-- the streams were merged, and the join was written
abbrev pub IsWritten : List InputDevice → Option (List ℕ) → Option (List ℕ) → Type 0
IsWritten starts begun held = (join : List ℕ) × IsJoinOf starts join × Appends begun held join

-- after a step: all was merged and written, or so far
abbrev pub IsStepped : List InputDevice → List InputDevice → Option (List ℕ) → Option (List ℕ) → Merging → Bool → Type 0
IsStepped starts now begun held m true = IsWritten starts begun held
IsStepped starts now begun held m false = IsMerging starts now begun held m

-- the join was written, or why not
abbrev pub MergeResult
    : List InputDevice → List ℕ → Option (List ℕ) → Option (List ℕ) → Result (Unit {0}) Fault → Type 0
MergeResult streams saved old new (Ok u) = IsWritten streams old new
MergeResult streams saved old new (Err f) = IsMergeFault streams saved f

-- ---- the file that is made

-- what the draft holds is the join, if it is known; it is known where the steps are
abbrev pub IsJoinDraft : List InputDevice → FileSteps → Option (List ℕ) → Type 0
IsJoinDraft streams steps contents =
    (begun : Option (List ℕ)) × IsDraft steps begun × IsWritten streams begun contents

-- a draft of the join was begun, or why it was given up; each file is as it was
abbrev pub DraftResult
    : {D : Type 0} → (D → Option (List ℕ)) → List InputDevice → List ℕ → Files → Files → Result D Fault → Type 0
DraftResult contents streams saved old new (Ok draft) =
    (new ≡ with_draft old saved) × IsJoinDraft streams new.steps (contents draft)
DraftResult contents streams saved old new (Err f) = IsMergeFault streams saved f × IsUnmade old new saved

-- the file at the path is the join, and no other changed; or why not, and each file is as it was
abbrev pub MergeFilesResult : List InputDevice → List ℕ → Files → Files → Result (Unit {0}) Fault → Type 0
MergeFilesResult streams saved old new (Ok u) =
    (join : List ℕ) × IsJoinOf streams join × IsNewFile old new saved join
MergeFilesResult streams saved old new (Err f) = IsMergeFault streams saved f × IsUnmade old new saved

-- the folder, standard error and the status after a merge
abbrev pub AfterMerge : List (List ℕ) → List ℕ → Files → Files → Device → Device → Status → Type 0
AfterMerge paths saved old new before after status = (result : Result (Unit {0}) Fault)
    × MergeFilesResult (streams_at old.octets paths) saved old new result × AfterEnd (as_done result) before after status
