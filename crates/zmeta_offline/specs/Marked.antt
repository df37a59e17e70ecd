-- What the first pass of `records` finds in saved files: where the records stand that are taken.
use Rattle.std.specs.Prelude.{◌≡◌, ◌↔◌, ◌<◌, ℕ, true, List, [], ◌∷◌, length, slice_get, slice_index_or, Contains, Option, None, Result, Ok, Err, ⊤}
use Rattle.std.specs.List.{AllByRecursion}
use Rattle.zknow.specs.declared.fact.Fact.{Fact}
use Rattle.zknow.specs.declared.fact.Fact.TheVariants.{Failed}
use Rattle.zknow.specs.Facts.{fact_target, AreFacts}
use Rattle.zknow.specs.List.Listing.{row_key_of}
use Rattle.zknow.specs.Saved.Saved.{IsWithinLimits}
use Rattle.zknow.specs.Saved.SavedFacts.{saved_fact}
use Rattle.zknow_runs.specs.Placed.{IsKnownTaken}
use Rattle.zknow_runs.specs.Rows.{is_taken, AreAllWanted}
use Rattle.zknow_runs.specs.declared.rows.Chosen.{Chosen}
use Rattle.zknow_runs.specs.declared.run.Run.{Run}
use Rattle.zmeta_devices.specs.declared.fault.Fault.{Fault}
use Rattle.zmeta_devices.specs.declared.fault.Fault.TheVariants.{NoCatalogue, Memory}
use Rattle.zmeta_offline.specs.Catalogues.{is_chosen}
use Rattle.zmeta_offline.specs.Join.{IsSavedAt, IsRefusedAmong}
use Rattle.zmeta_offline.specs.Names.{AreAllKnown}
use Rattle.zmeta_offline.specs.Records.{HasNoCatalogue}
use Rattle.zmeta_offline.specs.declared.scanned.Marked.{Marked}
use Rattle.zmeta_offline.specs.declared.scanned.Noting.{Noting}
use Rattle.zmeta_offline.specs.declared.scanned.Noting.TheVariants.{Failures, Others}

-- records are taken of the catalogues that are among `only`, or of all
abbrev pub AreChosen : List (List ℕ) → List (List ℕ) → Chosen → Type 0
AreChosen only names c = (target : ℕ) → is_taken c target ≡ is_chosen only (slice_get names target)

-- facts that are no records are noted
abbrev pub AreNoted : Noting → Type 0
AreNoted Failures = ⊥
AreNoted Others = ⊤

-- of the facts of several files, exactly those of chosen catalogues that are no records
pub record AreOthersOf (c : Chosen) (theirs : List (List Fact)) (facts : List Fact) : Type 0 where
  pub lawful : AreFacts facts
  pub members : (f : Fact) → Contains facts f ↔ (((own : List Fact) × Contains theirs own × Contains own f)
      × (row_key_of f ≡ None) × (is_taken c (fact_target f) ≡ true))

-- files by their paths, each with its octets if they are known
module _ (octets : List ℕ → Option (List ℕ)) where
  -- these are the facts of the files at these paths, one by one, each within the limits; all files have these names
  abbrev pub AreSavedEach : List (List ℕ) → List (List ℕ) → List (List Fact) → Type 0
  AreSavedEach names [] [] = ⊤
  AreSavedEach names (path ∷ paths) (facts ∷ theirs) =
      IsSavedAt octets path names facts × AreFacts facts × AllByRecursion (IsWithinLimits saved_fact) facts
      × AreSavedEach names paths theirs
  AreSavedEach names _ _ = ⊥

  module _ (paths : List (List ℕ)) where
    -- the octets of the file of this number, if they are known
    abbrev pub file_at : ℕ → Option (List ℕ)
    file_at number = octets (slice_index_or paths number [])

    -- the octets of one of the files are not known
    abbrev pub HasUnknown : Type 0
    HasUnknown = (path : List ℕ) × Contains paths path × (octets path ≡ None)

    -- one of the files says that a search or an association of a chosen catalogue failed
    pub record HasChosenFailure (only names : List (List ℕ)) (theirs : List (List Fact)) : Type 0 where
      pub facts : List Fact
      pub among : Contains theirs facts
      pub target : ℕ
      pub set : ℕ
      pub here : Contains facts (Failed target set)
      pub chosen : is_chosen only (slice_get names target) ≡ true

    -- the runs have the records of the chosen catalogues, as far as octets are known
    pub record AreMarked (only : List (List ℕ)) (noting : Noting) (m : Marked) : Type 0 where
      pub theirs : List (List Fact)
      pub saved : AreSavedEach m.names paths theirs
      pub known : AreAllKnown only m.names
      pub chosen : AreChosen only m.names m.chosen
      pub runs : AreAllWanted file_at (IsKnownTaken file_at m.chosen theirs) HasUnknown m.runs.items
      pub files : (r : Run) → Contains m.runs.items r → r.file < length paths
      pub failed : (m.failed ≡ true) ↔ HasChosenFailure only m.names theirs
      pub others : AreNoted noting → AreOthersOf m.chosen theirs m.others

    -- what was found, or why a file is refused
    abbrev pub ScanFilesResult : List (List ℕ) → Noting → Result Marked Fault → Type 0
    ScanFilesResult only noting (Ok m) = AreMarked only noting m
    ScanFilesResult only noting (Err (NoCatalogue name)) = HasNoCatalogue octets paths only name.now
    ScanFilesResult only noting (Err Memory) = ⊤
    ScanFilesResult only noting (Err f) = IsRefusedAmong octets paths f
