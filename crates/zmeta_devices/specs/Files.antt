-- Files by their paths: what is left of one that is read, and what is done with those that are written.
use Rattle.std.specs.Prelude.{◌≡◌, ◌⊎◌, ℕ, List, [], ◌∷◌, ◌++◌, drop, Contains, Bool, false, Option, Some, None, Result, Ok, Err, IfSome}
use Rattle.std.specs.Option.{option_map}

-- what is left of a file that opens at its first read: of the open file, or of the file at its path
abbrev pub opened_left : {A : Type 0} → (A → Option (List ℕ)) → Option (List ℕ) → Option A → Option (List ℕ)
opened_left remaining octets (Some file) = remaining file
opened_left remaining octets None = octets

-- what is left of the octets of a file, if they are known, behind this many of them
abbrev pub left_from : ℕ → Option (List ℕ) → Option (List ℕ)
left_from offset octets = option_map (drop offset) octets

-- ---- what is done with files that are written

-- a step at a path
pub data FileStep : Type 0 where
  -- a draft of a file was begun
  drafted : List ℕ → FileStep
  -- a draft was kept, with these octets
  kept : List ℕ → List ℕ → FileStep
  -- a log was begun
  logged : List ℕ → FileStep
  -- a log was ended, with these octets
  closed : List ℕ → List ℕ → FileStep

-- the steps so far, oldest first, if they are known
abbrev pub FileSteps : Type 0
FileSteps = Option (List FileStep)

-- the steps with one more
abbrev pub with_step : FileSteps → FileStep → FileSteps
with_step None step = None
with_step (Some steps) step = Some (steps ++ step ∷ [])

-- the step was taken, if that is known
abbrev pub WasTaken : FileSteps → FileStep → Type 0
WasTaken steps step = IfSome steps (λ known. Contains known step)

-- a folder: the octets of the file at each path, and whether two paths are those of one file, as far as that is known;
-- and what was done
pub record Files : Type 0 where
  pub octets : List ℕ → Option (List ℕ)
  pub are_one : List ℕ → List ℕ → Option Bool
  pub steps : FileSteps

-- the folder, by what is known of it
abbrev pub folder
    : {F : Type 0} → (F → List ℕ → Option (List ℕ)) → (F → List ℕ → List ℕ → Option Bool) → (F → FileSteps) → F → Files
folder octets are_one steps files =
    record { octets = octets files; are_one = are_one files; steps = steps files }

-- At each path of another file than the one at this path stands what stood there.
pub record IsAt (old new : Files) (path : List ℕ) : Type 0 where
  pub elsewhere : (other : List ℕ) → old.are_one path other ≡ Some false → new.octets other ≡ old.octets other
  pub same : new.are_one ≡ old.are_one
  pub unknown : old.steps ≡ None → new.steps ≡ None

-- the step was taken, and the file at the path has these octets, if they are known
abbrev pub HasMade : Files → Files → List ℕ → List ℕ → FileStep → Type 0
HasMade old new path octets step =
    (new.steps ≡ with_step old.steps step) × IfSome (new.octets path) (λ known. known ≡ octets)

-- if the steps are known
abbrev pub IfKnown : FileSteps → Type 0 → Type 0
IfKnown None Is = Unit {0}
IfKnown (Some steps) Is = Is

-- a step was taken that made a file at the path, with these octets, and no other file changed
pub record IsMade (old new : Files) (path octets : List ℕ) (step : FileStep) : Type 0 where
  pub at : IsAt old new path
  pub has : IfKnown old.steps (HasMade old new path octets step)

-- what a new draft, or a new log, holds: nothing; that is known where the steps are
abbrev pub IsDraft : FileSteps → Option (List ℕ) → Type 0
IsDraft None contents = IfSome contents (λ octets. octets ≡ [])
IsDraft (Some steps) contents = contents ≡ Some []

-- ---- drafts

-- a draft was begun at the path, and each file is as it was
abbrev pub with_draft : Files → List ℕ → Files
with_draft old path = record old { steps = with_step old.steps (drafted path) }

-- the same; or nothing happened
abbrev pub DraftResult : {D E : Type 0} → Files → Files → List ℕ → Result D E → Type 0
DraftResult old new path (Ok draft) = new ≡ with_draft old path
DraftResult old new path (Err error) = new ≡ old

-- a draft was kept: the file at the path has these octets
abbrev pub IsKept : Files → Files → List ℕ → List ℕ → Type 0
IsKept old new path octets = IsMade old new path octets (kept path octets)

-- the draft with these contents, if they are known, was kept; or each file is as it was
abbrev pub KeepResult : {E : Type 0} → Files → Files → List ℕ → Option (List ℕ) → Result (Unit {0}) E → Type 0
KeepResult old new path contents (Ok u) =
    IsAt old new path × IfSome contents (λ octets. HasMade old new path octets (kept path octets))
KeepResult old new path contents (Err error) = new ≡ old

-- a draft was begun at the path and kept: the file there has these octets, and no other file changed
abbrev pub IsNewFile : Files → Files → List ℕ → List ℕ → Type 0
IsNewFile old new path octets = IsKept (with_draft old path) new path octets

-- each file is as it was: at most a draft was begun
abbrev pub IsUnmade : Files → Files → List ℕ → Type 0
IsUnmade old new path = (new ≡ old) ⊎ (new ≡ with_draft old path)

-- ---- logs

-- a log was begun at the path, and no other file changed
pub record IsLogged (old new : Files) (path : List ℕ) : Type 0 where
  pub at : IsAt old new path
  pub steps : new.steps ≡ with_step old.steps (logged path)

-- the same; or nothing happened
abbrev pub LogResult : {L E : Type 0} → Files → Files → List ℕ → Result L E → Type 0
LogResult old new path (Ok log) = IsLogged old new path
LogResult old new path (Err error) = new ≡ old

-- a log was ended: the file at the path has these octets
abbrev pub IsClosed : Files → Files → List ℕ → List ℕ → Type 0
IsClosed old new path octets = IsMade old new path octets (closed path octets)

-- the log was ended with a front of these octets
pub record IsClosedFront (old new : Files) (path octets : List ℕ) : Type 0 where
  pub front : List ℕ
  pub rest : List ℕ
  pub cut : octets ≡ front ++ rest
  pub closed : IsClosed old new path front

-- the log was not ended with all of these octets: with a front of them, or it is as it was
abbrev pub IsBroken : Files → Files → List ℕ → List ℕ → Type 0
IsBroken old new path octets = (new ≡ old) ⊎ IsClosedFront old new path octets

-- the log with these contents, if they are known, was ended
abbrev pub IsClosedIf : Files → Files → List ℕ → Option (List ℕ) → Type 0
IsClosedIf old new path contents =
    IsAt old new path × IfSome contents (λ octets. HasMade old new path octets (closed path octets))

-- a front of it was, or it is as it was
abbrev pub IsBrokenIf : Files → Files → List ℕ → Option (List ℕ) → Type 0
IsBrokenIf old new path contents = (new ≡ old) ⊎ (IsAt old new path × IfSome contents
    (λ octets. (front : List ℕ) × (rest : List ℕ) × (octets ≡ front ++ rest)
    × HasMade old new path front (closed path front)))

-- the log with these contents was ended; or not
abbrev pub CloseResult : {E : Type 0} → Files → Files → List ℕ → Option (List ℕ) → Result (Unit {0}) E → Type 0
CloseResult old new path contents (Ok u) = IsClosedIf old new path contents
CloseResult old new path contents (Err error) = IsBrokenIf old new path contents
