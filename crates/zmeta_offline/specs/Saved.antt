-- Facts that are saved in a file.
use Rattle.std.specs.Prelude.{◌≡◌, ◌⊎◌, ℕ, List, Option, Some, None, Result, Ok, Err, IfSome}
use Rattle.std.specs.Option.{option_map}
use Rattle.zknow.specs.declared.fact.Fact.{Fact}
use Rattle.zknow.specs.Saved.Saved.{IsSaved, HasTooDeep, HasTooLong}
use Rattle.zmeta_devices.specs.Files.{Files, FileSteps, WasTaken, IsAt, HasMade, IsDraft, with_draft, IsKept}
use Rattle.zmeta_devices.specs.Files.FileStep.{drafted, kept}
use Rattle.zmeta_devices.specs.declared.fault.Fault.{Fault}
use Rattle.zmeta_devices.specs.declared.fault.Fault.TheVariants.{Write, Memory}
use Rattle.zmeta_offline.specs.declared.saved.Saving.{Saving}

-- ---- the beginning

-- why no draft is begun of a file at the path: it cannot be written, or no memory was found
abbrev pub IsDraftFault : List ℕ → Fault → Type 0
IsDraftFault path (Write failed) = failed.now ≡ path
IsDraftFault path Memory = Unit {0}
IsDraftFault path _ = ⊥

-- a draft was begun; or not, and nothing happened
abbrev pub BeginResult : {D : Type 0} → Files → Files → List ℕ → Result D Fault → Type 0
BeginResult old new path (Ok draft) = new ≡ with_draft old path
BeginResult old new path (Err f) = IsDraftFault path f × (new ≡ old)

-- the draft was begun at its path, and holds nothing, as far as that is known
pub record IsBegun {D : Type 0} (contents : D → Option (List ℕ)) (steps : FileSteps) (s : Saving D) : Type 0 where
  pub taken : WasTaken steps (drafted s.path.now)
  pub empty : IsDraft steps (contents s.draft)

-- the same, if there is a draft
abbrev pub IsBegunIf : {D : Type 0} → (D → Option (List ℕ)) → FileSteps → Option (Saving D) → Type 0
IsBegunIf contents steps None = Unit {0}
IsBegunIf contents steps (Some s) = IsBegun contents steps s

-- the path of the file to be made, if there is one
abbrev pub saving_path : {D : Type 0} → Option (Saving D) → Option (List ℕ)
saving_path saving = option_map (λ s. s.path.now) saving

-- ---- the end

-- an element of the saved file passes the limits
abbrev pub IsOverLimits : List (List ℕ) → List Fact → Type 0
IsOverLimits names facts = HasTooDeep names facts ⊎ HasTooLong names facts

-- the octets of the saved file, or why there are none; the file at the path is refused only if they pass the limits
abbrev pub SavedOctetsResult : List (List ℕ) → List Fact → List ℕ → Result (List ℕ) Fault → Type 0
SavedOctetsResult names facts path (Ok octets) = IsSaved names facts octets
SavedOctetsResult names facts path (Err (Write failed)) = (failed.now ≡ path) × IsOverLimits names facts
SavedOctetsResult names facts path (Err Memory) = Unit {0}
SavedOctetsResult names facts path (Err _) = ⊥

-- the draft with these contents, if they are known, was kept; or the fault names the path, and each file is as it was
abbrev pub KeepDraftResult
    : Files → Files → List ℕ → Option (List ℕ) → Result (Unit {0}) Fault → Type 0
KeepDraftResult old new path contents (Ok u) =
    IsAt old new path × IfSome contents (λ octets. HasMade old new path octets (kept path octets))
KeepDraftResult old new path contents (Err (Write failed)) = (failed.now ≡ path) × (new ≡ old)
KeepDraftResult old new path contents (Err _) = ⊥

-- the draft was kept with these octets: the file at the path has them; or the fault names the path, and each file is as
-- it was
abbrev pub KeepOctetsResult : Files → Files → List ℕ → List ℕ → Result (Unit {0}) Fault → Type 0
KeepOctetsResult old new path octets (Ok u) = IsKept old new path octets
KeepOctetsResult old new path octets (Err (Write failed)) = (failed.now ≡ path) × (new ≡ old)
KeepOctetsResult old new path octets (Err _) = ⊥

-- the file at the path is the saved file, and no other changed
abbrev pub HasSavedFile : List (List ℕ) → List Fact → List ℕ → Files → Files → Type 0
HasSavedFile names facts path old new = (octets : List ℕ) × IsSaved names facts octets × IsKept old new path octets

-- the facts have no saved file, since an element passes the limits; or it was not written
abbrev pub IsUnsaved : List (List ℕ) → List Fact → Type 0
IsUnsaved names facts = IsOverLimits names facts ⊎ ((octets : List ℕ) × IsSaved names facts octets)

-- the facts were saved in the file of a draft that was begun; or not, since it could not be written, or no memory was
-- found, and each file is as it was
abbrev pub SaveFactsResult : List (List ℕ) → List Fact → List ℕ → Files → Files → Result (Unit {0}) Fault → Type 0
SaveFactsResult names facts path old new (Ok u) = HasSavedFile names facts path old new
SaveFactsResult names facts path old new (Err (Write failed)) =
    (failed.now ≡ path) × IsUnsaved names facts × (new ≡ old)
SaveFactsResult names facts path old new (Err Memory) = new ≡ old
SaveFactsResult names facts path old new (Err _) = ⊥
