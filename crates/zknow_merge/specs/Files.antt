-- What the steps of a merge say of files, if each input is what has come of one of them.
use Rattle.std.specs.Prelude.{◌≡◌, ◌≢◌, ℕ, ◌<◌, List, [], ◌++◌, length, slice_index_or, ⊤}
use Rattle.zknow.specs.declared.saved.loading.LoadError.{LoadError}
use Rattle.zknow.specs.declared.saved.loading.LoadError.TheVariants as loads
use Rattle.zknow.specs.Saved.Loaded.{IsLoadFault}
use Rattle.zknow_merge.specs.declared.step.Step.{Step}
use Rattle.zknow_merge.specs.declared.step.Step.TheVariants.{Need, Again, Refused, NamesDiffer, Done}
use Rattle.zknow_merge.specs.Inputs.{Input, IsFileOf, input_at, octets_of, changed_at, fed, at_end, fresh}
use Rattle.zknow_merge.specs.Joins.{HasNames, IsJoin}
use Rattle.zknow_merge.specs.Merges.{IsStep}

-- the file with this number
abbrev pub file_at : List (List ℕ) → ℕ → List ℕ
file_at files k = slice_index_or files k []

-- each input is a front of the file with its number, and the whole of it at its end
pub record AreFilesOf (inputs : List Input) (files : List (List ℕ)) : Type 0 where
  pub count : length inputs ≡ length files
  pub each : (k : ℕ) → k < length files → IsFileOf (input_at inputs k) (file_at files k)

-- the files before this one are saved files with these names
abbrev pub AreSavedBefore : List (List ℕ) → List (List ℕ) → ℕ → Type 0
AreSavedBefore names files count = (k : ℕ) → k < count → HasNames names (file_at files k)

-- file `number` is the first that is refused, with this fault, which is not `Memory`; the files before it are saved
-- files with one list of names
pub record IsFirstFaultyFile (files : List (List ℕ)) (number : ℕ) (fault : LoadError) : Type 0 where
  pub among : number < length files
  pub names : List (List ℕ)
  pub before : AreSavedBefore names files number
  pub is : IsLoadFault (file_at files number) fault
  pub some : fault ≢ loads.Memory

-- file `number` is the first that is refused: it is a saved file with other names than the files before it, of which
-- there is at least one
pub record IsFirstFileOfOtherNames (files : List (List ℕ)) (number : ℕ) : Type 0 where
  pub among : number < length files
  pub some : 0 < number
  pub names : List (List ℕ)
  pub before : AreSavedBefore names files number
  pub others : List (List ℕ)
  pub file : HasNames others (file_at files number)
  pub differ : others ≢ names

-- what a step says of the files, if these octets were handed out
abbrev pub IsStepOf : List (List ℕ) → List ℕ → Step → Type 0
IsStepOf files written (Need i) = i < length files
IsStepOf files written Again = ⊤
IsStepOf files written (Refused i e) = IsFirstFaultyFile files i e
IsStepOf files written (NamesDiffer i) = IsFirstFileOfOtherNames files i
IsStepOf files written Done = IsJoin files written

pub record FileLaws : Type 0 where
  -- nothing has come of any file
  pub start : (files : List (List ℕ)) → AreFilesOf (fresh (length files)) files
  -- the next piece of a file came
  pub piece : (inputs : List Input) (files : List (List ℕ)) (k : ℕ) (piece more : List ℕ) → AreFilesOf inputs files
      → k < length files → file_at files k ≡ octets_of (input_at inputs k) ++ piece ++ more
      → AreFilesOf (changed_at k (fed piece) inputs) files
  -- the end of a file came
  pub end : (inputs : List Input) (files : List (List ℕ)) (k : ℕ) → AreFilesOf inputs files → k < length files
      → file_at files k ≡ octets_of (input_at inputs k) → AreFilesOf (changed_at k at_end inputs) files
  -- what a step says of the inputs, it says of the files
  pub step : (inputs : List Input) (files : List (List ℕ)) (written : List ℕ) (step : Step) → AreFilesOf inputs files
      → IsStep inputs written step → IsStepOf files written step
