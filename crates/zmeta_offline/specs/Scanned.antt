-- The scan of saved files, one after the other: what was read of a file, and what was noted of chosen catalogues.
use Rattle.std.specs.Prelude.{◌≡◌, ℕ, Bool, false, ◌||◌, List, [], ◌∷◌, ◌++◌, length, Contains, Option, Some, None}
use Rattle.std.specs.List.{list_any, AllByRecursion}
use Rattle.zknow.specs.declared.fact.Fact.{Fact}
use Rattle.zknow.specs.declared.fact.Fact.TheVariants.{Count, Failed, Seen, Diag}
use Rattle.zknow.specs.Encodings.{encoding}
use Rattle.zknow.specs.Facts.{AreFacts}
use Rattle.zknow.specs.Saved.Saved.{IsWithinLimits}
use Rattle.zknow.specs.Saved.SavedFacts.{saved_names, saved_fact}
use Rattle.zknow.specs.Tables.Join.{IsUnion}
use Rattle.zknow_merge.specs.Inputs.{Input}
use Rattle.zknow_merge.specs.Scans.{Found, IsScan, IsPlaceOf}
use Rattle.zknow_merge.specs.declared.scan.FactPlace.{FactPlace}
use Rattle.zknow_merge.specs.declared.scan.Scan.{Scan}
use Rattle.zknow_runs.specs.Placed.{placed, all_placed}
use Rattle.zknow_runs.specs.Rows.{is_taken}
use Rattle.zknow_runs.specs.Runs.{HoldsRuns}
use Rattle.zknow_runs.specs.declared.rows.Chosen.{Chosen}
use Rattle.zmeta_devices.specs.Devices.{InputDevice}
use Rattle.zmeta_devices.specs.declared.fault.Fault.{Fault}
use Rattle.zmeta_devices.specs.declared.fault.Fault.TheVariants.{NamesDiffer}
use Rattle.zmeta_offline.specs.Join.{IsSavedAt, IsFaultAt, HasOtherNames}
use Rattle.zmeta_offline.specs.Marked.{AreChosen, AreNoted, AreOthersOf, AreSavedEach}
use Rattle.zmeta_offline.specs.Merged.{stream_at, IsReadTo}
use Rattle.zmeta_offline.specs.declared.scanned.First.{First}
use Rattle.zmeta_offline.specs.declared.scanned.Marks.{Marks}
use Rattle.zmeta_offline.specs.declared.scanned.Reached.{Reached}
use Rattle.zmeta_offline.specs.declared.scanned.Reached.TheVariants as reacheds

-- ---- what facts say of chosen catalogues

-- whether the fact says that a search or an association of a catalogue failed whose records are taken
abbrev pub is_failure : Chosen → Fact → Bool
is_failure c (Count t s n) = false
is_failure c (Failed t s) = is_taken c t
is_failure c (Seen t s p r) = false
is_failure c (Diag t s p d) = false

-- whether one of the facts says so
abbrev pub has_failure : Chosen → List Fact → Bool
has_failure c facts = list_any (is_failure c) facts

-- What was noted of the files with these facts and the names of the first, and of these facts of the next file, which
-- has names of its own.
pub record AreMarks (first : First) (theirs : List (List Fact)) (own : List (List ℕ)) (facts : List Fact) (m : Marks)
    : Type 0 where
  pub runs : HoldsRuns (all_placed first.chosen first.names 0 theirs
      ++ placed first.chosen own (length theirs) [] facts) m.runs
  pub failed : m.failed ≡ (list_any (has_failure first.chosen) theirs || has_failure first.chosen facts)
  pub others : AreNoted first.noting → AreOthersOf first.chosen (facts ∷ theirs) m.others

-- ---- what is noted of one fact

-- these are facts, which are those before and this one
pub record HasAdded (f : Fact) (old new : List Fact) : Type 0 where
  pub lawful : AreFacts new
  pub union : IsUnion (Contains old) (λ g. g ≡ f) (Contains new)

-- the element is that of the names, and records are taken of the catalogues that are among `only`, or of all
pub record IsFirst (only : List (List ℕ)) (first : First) : Type 0 where
  pub element : first.element.items ≡ encoding saved_names first.names
  pub fits : IsWithinLimits saved_names first.names
  pub chosen : AreChosen only first.names first.chosen

-- a scan has read these names, and nothing more
abbrev pub IsBehindNames : List (List ℕ) → Scan → Type 0
IsBehindNames own s = (i : Input) × IsScan i (Some (own, [])) s

-- a scan has read this fact last
abbrev pub IsBehindFact : Fact → Scan → Type 0
IsBehindFact f s = (i : Input) × (names : List (List ℕ)) × (facts : List Fact)
    × IsScan i (Some (names, facts ++ f ∷ [])) s

-- files by their paths, each with its octets if they are known
module _ (octets : List ℕ → Option (List ℕ)) where
  -- ---- one file

  -- the scan has read this of the file at the path, of which the stream has the rest
  pub record IsScanning (path : List ℕ) (now : InputDevice) (found : Found) (s : Scan) : Type 0 where
    pub input : Input
    pub read : IsReadTo (stream_at octets path) now input
    pub scan : IsScan input found s

  -- the file at the path has these facts
  pub record AreFactsAt (path : List ℕ) (names : List (List ℕ)) (facts : List Fact) : Type 0 where
    pub saved : IsSavedAt octets path names facts
    pub are : AreFacts facts
    pub fit : AllByRecursion (IsWithinLimits saved_fact) facts

  -- the names were read, which come first
  abbrev pub AfterNames : List ℕ → InputDevice → Found → Scan → Type 0
  AfterNames path now None s = (names : List (List ℕ)) × IsScanning path now (Some (names, [])) s
  AfterNames path now (Some found) s = ⊥

  -- a fact was read behind the names and facts before it
  abbrev pub AfterFact : List ℕ → InputDevice → Found → FactPlace → Scan → Type 0
  AfterFact path now None p s = ⊥
  AfterFact path now (Some found) p s = (f : Fact) × IsPlaceOf found.0 found.1 f p
      × IsScanning path now (Some (found.0, found.1 ++ f ∷ [])) s

  -- all of the file was read
  abbrev pub AfterEnd : List ℕ → Found → Type 0
  AfterEnd path None = ⊥
  AfterEnd path (Some found) = AreFactsAt path found.0 found.1

  -- after one element more was read, or the end
  abbrev pub AfterReached : List ℕ → InputDevice → Found → Reached → Scan → Type 0
  AfterReached path now found reacheds.Names s = AfterNames path now found s
  AfterReached path now found (reacheds.Fact p) s = AfterFact path now found p s
  AfterReached path now found reacheds.End s = AfterEnd path found

  -- all facts of the file at the path were noted behind those of the files before it
  pub record IsMarkedFile (path : List ℕ) (first : First) (theirs : List (List Fact)) (own : List (List ℕ))
      (m : Marks) : Type 0 where
    pub facts : List Fact
    pub has : AreFactsAt path own facts
    pub marks : AreMarks first theirs own facts m

  -- ---- several files

  -- why the file at the path is refused, behind files with these names
  abbrev pub IsRefusedBehind : List (List ℕ) → List ℕ → Fault → Type 0
  IsRefusedBehind names path NamesDiffer = HasOtherNames octets names path
  IsRefusedBehind names path f = IsFaultAt octets path f

  -- the files at these paths were scanned; all have the names of the first
  pub record IsScannedTo (only paths : List (List ℕ)) (first : First) (m : Marks) : Type 0 where
    pub theirs : List (List Fact)
    pub saved : AreSavedEach octets first.names paths theirs
    pub first_is : IsFirst only first
    pub marks : AreMarks first theirs first.names [] m
