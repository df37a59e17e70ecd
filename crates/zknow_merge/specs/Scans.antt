-- A scan of one file: what it has read, and what each step means.
use Rattle.std.specs.Prelude.{◌≡◌, ◌⊎◌, ◌+◌, ◌<◌, ℕ, true, false, List, [], ◌∷◌, ◌++◌, length, Option, Some, None, Vec, ⊤}
use Rattle.std.specs.List.{last_or}
use Rattle.std.specs.Option.{option_map}
use Rattle.zknow.specs.declared.fact.Fact.{Fact}
use Rattle.zknow.specs.Encodings.{encoding}
use Rattle.zknow.specs.Facts.{fact_kind, fact_target, fact_set, fact_number}
use Rattle.zknow.specs.Saved.Saved.{saved, IsSaved}
use Rattle.zknow.specs.Saved.SavedFacts.{saved_names, saved_fact}
use Rattle.zknow.specs.Saved.Fronts.{IsNoncanonical}
use Rattle.zknow.specs.declared.saved.loading.LoadError.{LoadError}
use Rattle.zknow.specs.Saved.Loaded.{HasNoFrontValue, IsLoadFault}
use Rattle.zknow_merge.specs.declared.first.FirstError.{FirstError}
use Rattle.zknow_merge.specs.declared.first.FirstError.TheVariants as firsts
use Rattle.zknow_merge.specs.declared.head.Head.{Head}
use Rattle.zknow_merge.specs.declared.scan.FactKind.{FactKind}
use Rattle.zknow_merge.specs.declared.scan.FactKind.TheVariants as kinds
use Rattle.zknow_merge.specs.declared.scan.FactPlace.{FactPlace}
use Rattle.zknow_merge.specs.declared.scan.Scan.{Scan}
use Rattle.zknow_merge.specs.declared.scan.ScanStep.{ScanStep}
use Rattle.zknow_merge.specs.declared.scan.ScanStep.TheVariants as steps
use Rattle.zknow_merge.specs.declared.source.Read.{Read}
use Rattle.zknow_merge.specs.declared.source.Read.TheVariants as reads
use Rattle.zknow_merge.specs.declared.source.Source.{Source}
use Rattle.zknow_merge.specs.Inputs.{Input, IsFileOf, no_input, fed, at_end}
use Rattle.zknow_merge.specs.Sources.{IsLastHead, HasReadNames, IsFaultOf}

-- ---- a fact, and where it stands

-- the number of a kind of facts, in fact order
abbrev pub kind_number : FactKind → ℕ
kind_number kinds.Count = 0
kind_number kinds.Failed = 1
kind_number kinds.Record = 2
kind_number kinds.Diagnostic = 3

-- this is the fact's kind, target, set and number
pub record IsOfFact (f : Fact) (p : FactPlace) : Type 0 where
  pub kind : kind_number p.kind ≡ fact_kind f
  pub target : p.target ≡ fact_target f
  pub set : p.set ≡ fact_set f
  pub number : p.number ≡ fact_number f

-- this is the fact, and its element stands here behind that of the names and those of these facts
pub record IsPlaceOf (names : List (List ℕ)) (facts : List Fact) (f : Fact) (p : FactPlace) : Type 0 where
  pub fact : IsOfFact f p
  pub begin : p.begin ≡ length (saved names facts)
  pub end : p.end ≡ length (saved names (facts ++ f ∷ []))

-- ---- what was read

-- what was read of a file: nothing, or names and facts
abbrev pub Found : Type 0
Found = Option (List (List ℕ) × List Fact)

-- the element of the names that were read, if they were
abbrev pub names_octets : Found → Option (List ℕ)
names_octets None = None
names_octets (Some found) = Some (encoding saved_names found.0)

-- the element of the last fact that was read, if one was read
abbrev pub last_element_of : Found → Option (List ℕ)
last_element_of None = None
last_element_of (Some found) = option_map (encoding saved_fact) (last_or None found.1)

-- the source has read these names and facts, whose saved file is this front of the input
pub record HasReadTo (i : Input) (names : List (List ℕ)) (facts : List Fact) (front : List ℕ) (s : Source)
    : Type 0 where
  pub cut : i.octets ≡ front ++ s.octets.items
  pub ended : i.ended ≡ s.ended
  pub waits : s.waiting ≡ false
  pub named : HasReadNames names s
  pub saved : IsSaved names facts front
  pub last : IsLastHead facts s.last
  pub count : s.count ≡ length facts + 1

-- the scan has read nothing of the input
pub record IsNewScan (i : Input) (s : Scan) : Type 0 where
  pub cut : i.octets ≡ s.source.octets.items
  pub ended : i.ended ≡ s.source.ended
  pub waits : s.source.waiting ≡ false
  pub names : s.source.names ≡ None
  pub last : s.source.last ≡ None
  pub count : s.source.count ≡ 0
  pub at : s.at ≡ 0

-- the scan has read these names and facts of the input
pub record IsScanOf (i : Input) (names : List (List ℕ)) (facts : List Fact) (s : Scan) : Type 0 where
  pub front : List ℕ
  pub read : HasReadTo i names facts front s.source
  pub at : s.at ≡ length front

-- the scan has read this of the input
abbrev pub IsScan : Input → Found → Scan → Type 0
IsScan i None s = IsNewScan i s
IsScan i (Some found) s = IsScanOf i found.0 found.1 s

-- ---- what a step means

-- octets are needed, and the file may have more; nothing was read
abbrev pub AfterNeed : Input → Found → Scan → Type 0
AfterNeed i found s = IsScan i found s × (i.ended ≡ false)

-- the names were read, which come first
abbrev pub AfterNames : Input → Found → Scan → Type 0
AfterNames i None s = (names : List (List ℕ)) × IsScan i (Some (names, [])) s
AfterNames i (Some found) s = ⊥

-- a fact was read behind the names and facts before it
abbrev pub AfterFact : Input → Found → FactPlace → Scan → Type 0
AfterFact i None p s = ⊥
AfterFact i (Some found) p s =
    (f : Fact) × IsPlaceOf found.0 found.1 f p × IsScan i (Some (found.0, found.1 ++ f ∷ [])) s

-- the file is at its end, and it is the saved file of what was read
abbrev pub IsScanned : Input → Found → Type 0
IsScanned i None = ⊥
IsScanned i (Some found) = (i.ended ≡ true) × IsSaved found.0 found.1 i.octets

-- what a step of a scan means, which had read this of the input before
abbrev pub AfterScan : Input → Found → ScanStep → Scan → Type 0
AfterScan i found steps.Need s = AfterNeed i found s
AfterScan i found steps.Names s = AfterNames i found s
AfterScan i found (steps.Fact p) s = AfterFact i found p s
AfterScan i found (steps.Refused e) s = IsFaultOf i e
AfterScan i found steps.Done s = IsScanned i found

-- what scans say of a file, if the input is what has come of it
pub record ScanLaws : Type 0 where
  -- nothing has come of the file
  pub start : (file : List ℕ) → IsFileOf no_input file
  -- the next piece of it came
  pub piece : (i : Input) (file piece more : List ℕ) → IsFileOf i file → i.ended ≡ false
      → file ≡ i.octets ++ piece ++ more → IsFileOf (fed piece i) file
  -- its end came
  pub end : (i : Input) (file : List ℕ) → IsFileOf i file → file ≡ i.octets → IsFileOf (at_end i) file
  -- the fault of the input is that of the file
  pub refused : (i : Input) (file : List ℕ) (fault : LoadError) → IsFileOf i file → IsFaultOf i fault
      → IsLoadFault file fault
  -- a file that was scanned is the saved file of what was found
  pub whole : (i : Input) (file : List ℕ) (names : List (List ℕ)) (facts : List Fact) → IsFileOf i file
      → IsScanned i (Some (names, facts)) → IsSaved names facts file

-- ---- a read, before the scan goes behind the element

-- one element more was read; the scan still stands before it
abbrev pub IsReadOn : Input → Found → Scan → Type 0
IsReadOn i None s =
    (names : List (List ℕ)) × (front : List ℕ) × HasReadTo i names [] front s.source × (s.at ≡ 0)
IsReadOn i (Some found) s = (f : Fact) × (front : List ℕ)
    × HasReadTo i found.0 (found.1 ++ f ∷ []) front s.source × (s.at ≡ length (saved found.0 found.1))

-- after a read: octets are needed, the file has a fault, or one element more was read
abbrev pub AfterScanRead : Input → Found → Read → Scan → Type 0
AfterScanRead i found reads.Need s = AfterNeed i found s
AfterScanRead i found (reads.Fault e) s = IsFaultOf i e
AfterScanRead i found reads.Element s = IsReadOn i found s

-- the octets, none if there are none
abbrev pub octets_or_none : {A : Type 0} → Option (Vec ℕ A) → List ℕ
octets_or_none None = []
octets_or_none (Some v) = v.items

-- the element of the last fact that was read; that of the names if no fact was read
abbrev pub last_octets : Option Head → List ℕ → List ℕ
last_octets None names = names
last_octets (Some h) names = h.element.items

-- the element that the source read last
abbrev pub last_element : Source → List ℕ
last_element s = last_octets s.last (octets_or_none s.names)

-- what orders the fact of the head, and these bounds
pub record IsPlaced (h : Head) (begin end : ℕ) (p : FactPlace) : Type 0 where
  pub kind : h.kind < 4 → kind_number p.kind ≡ h.kind
  pub target : p.target ≡ h.target
  pub set : p.set ≡ h.set
  pub number : p.number ≡ h.number
  pub begins : p.begin ≡ begin
  pub ends : p.end ≡ end

-- ---- the fact that octets begin with

-- whatever comes after the octets, they do not begin with the canonical element of a fact
abbrev pub IsNoFirstFact : List ℕ → Type 0
IsNoFirstFact octets =
    ((more : List ℕ) → HasNoFrontValue saved_fact (octets ++ more))
    ⊎ ((more : List ℕ) → IsNoncanonical saved_fact (octets ++ more))

-- why octets do not begin with the canonical element of a fact
abbrev pub IsFirstFault : List ℕ → FirstError → Type 0
IsFirstFault octets firsts.Unfinished = HasNoFrontValue saved_fact octets
IsFirstFault octets firsts.NotFact = IsNoFirstFact octets
IsFirstFault octets firsts.Memory = ⊤
