-- Saved files that are scanned, one after the other.
use Rattle.std.proofs.Common.{◌≡◌, ◌∙◌, ◌↔◌, refl, sym, ap, subst, arith, ℕ, zero, suc, ◌<◌, Bool, false, List, [], ◌∷◌, ◌++◌, length, append-nil, Option, Some, None, IfSome, Result, Err}
use Rattle.std.specs.Prelude.{slice_index_or, IfErr, IsTrue}
use Rattle.std.specs.Borrow.{Bor}
use Rattle.std.specs.Io.KnownBytes.{Consumes, IsAtEnd}
use Rattle.std.specs.List.{AllByRecursion}
use Rattle.std.specs.List.Sorted.{IsStrictlySortedBy}
use Rattle.std.proofs.KnownBytes.{Consumes-nil}
use Rattle.std.specs.Bool.{Decides}
use Rattle.std.specs.Str.{bytes_eq}
use Rattle.std.proofs.lemmas.List.Elements.{Contains-get_or}
use Rattle.std.proofs.lemmas.Slice.Eq.{bytes_eq-Decides}
use Rattle.zknow.specs.declared.fact.Fact.{Fact}
use Rattle.zknow.specs.declared.saved.loading.LoadError.{LoadError}
use Rattle.zknow.specs.declared.saved.loading.LoadError.TheVariants as loads
use Rattle.zknow.specs.Encodings.{encoding}
use Rattle.zknow.specs.Facts.{fact_cmp, IsFact}
use Rattle.zknow.specs.Saved.Loaded.{IsLoadFault}
use Rattle.zknow.specs.Saved.Saved.{IsWithinLimits, IsSaved}
use Rattle.zknow.specs.Saved.SavedFacts.{saved_names, saved_fact}
use Rattle.zknow.proofs.SavedTheory.LoadSteps.{said_is_fact}
use Rattle.zknow.proofs.SavedTheory.OneElement.{one_element}
use Rattle.zknow_merge.specs.Inputs.{Input, fed, at_end, no_input}
use Rattle.zknow_merge.specs.Scans.{Found, IsScan, AfterScan}
use Rattle.zknow_merge.specs.Sources.{IsFaultOf}
use Rattle.zknow_merge.specs.declared.scan.FactPlace.{FactPlace}
use Rattle.zknow_merge.specs.declared.scan.Scan.{Scan}
use Rattle.zknow_merge.specs.declared.scan.ScanStep.{ScanStep}
use Rattle.zknow_merge.specs.declared.scan.ScanStep.TheVariants as steps
use Rattle.zmeta_devices.proofs.DeviceSteps.{unknown_before}
use Rattle.zmeta_devices.specs.Devices.{InputDevice}
use Rattle.zmeta_devices.specs.Faults.{of_load}
use Rattle.zmeta_devices.specs.declared.fault.Fault.{Fault}
use Rattle.zmeta_devices.specs.declared.fault.Fault.TheVariants.{Read}
use Rattle.zmeta_offline.specs.Join.{IsFaultAt}
use Rattle.zmeta_offline.specs.Marked.{AreChosen, AreSavedEach, file_at, HasUnknown}
use Rattle.zmeta_offline.specs.Merged.{stream_at}
use Rattle.zmeta_offline.specs.declared.scanned.First.{First}
use Rattle.zmeta_offline.specs.Scanned.{IsBehindNames, IsFirst, IsScanning, AreFactsAt, AfterNames, AfterFact, AfterEnd}
use Rattle.zmeta_offline.proofs.Merging.{begins, ended, taken}

-- a fault that is handed on
pub if_err : {A : Type 0} (r : Result A Fault) (P : Fault → Type 0) (f g : Fault) → r ≡ Err f → f ≡ g → P g → IfErr r P
if_err r P f g is of h = rw (is, of) h

-- ---- the names of a file

pub none_ordered : IsStrictlySortedBy fact_cmp []
unfolding IsStrictlySortedBy
none_ordered = tt

-- the element of the names is a saved file of no facts
pub names_alone : (names : List (List ℕ)) (element : List ℕ) → IsWithinLimits saved_names names
    → element ≡ encoding saved_names names → IsSaved names [] element
names_alone names element fits is = record {
  octets = is ∙ sym (append-nil (encoding saved_names names));
  ordered = none_ordered;
  names_fit = fits;
  facts_fit = tt;
}

-- names whose elements are the same are the same
pub same_names : (names own : List (List ℕ)) → IsWithinLimits saved_names names → IsWithinLimits saved_names own
    → encoding saved_names names ≡ encoding saved_names own → names ≡ own
same_names names own fits own_fits same =
    (one_element saved_names names own (encoding saved_names names) (encoding saved_names own) [] [] fits own_fits
    (ap (λ (l : List ℕ). l ++ []) same)).0

pub scan_fits : (i : Input) (names : List (List ℕ)) (facts : List Fact) (s : Scan) → IsScan i (Some (names, facts)) s
    → IsWithinLimits saved_names names
scan_fits i names facts s h = h.read.saved.names_fit

some_same : {X : Type 0} (x y : X) → Some x ≡ Some y → x ≡ y
some_same x y is = Prim.cc is

-- two elements of names are compared
pub names_test : (names own : List (List ℕ)) (s : Scan) (octets element : List ℕ) (same : Bool) → IsBehindNames own s
    → IsWithinLimits saved_names names → element ≡ encoding saved_names names
    → Some octets ≡ Some (encoding saved_names own) → same ≡ bytes_eq octets element → IsTrue same ↔ (names ≡ own)
names_test names own s octets element same behind fits is read test =
    let own_is : octets ≡ encoding saved_names own = some_same octets (encoding saved_names own) read in
    let tells : Decides same (octets ≡ element) =
    subst (λ (b : Bool). Decides b (octets ≡ element)) (sym test) (bytes_eq-Decides octets element) in (
      λ so. same_names names own fits (scan_fits behind.0 own [] s behind.1) (sym is ∙ sym (tells.0 so) ∙ own_is),
      λ both. tells.1 (own_is ∙ ap (λ (n : List (List ℕ)). encoding saved_names n) (sym both) ∙ sym is),
    )

-- the names of the first file
pub first_is : (only names : List (List ℕ)) (s : Scan) (element : List ℕ) (first : First) (seen : List (List ℕ))
    → IsBehindNames names s → Some element ≡ Some (encoding saved_names names)
    → (IsSaved names [] element → (facts : List Fact) × (facts ≡ []) × (first.names ≡ names))
    → first.element.items ≡ element → seen ≡ first.names → AreChosen only seen first.chosen
    → (first.names ≡ names) × IsFirst only first
first_is only names s element first seen behind read exact kept same chosen =
    let fits : IsWithinLimits saved_names names = scan_fits behind.0 names [] s behind.1 in
    let is : element ≡ encoding saved_names names = some_same element (encoding saved_names names) read in
    let loaded : first.names ≡ names = (exact (names_alone names element fits is)).2 in (
      loaded,
      record {
        element = kept ∙ is ∙ ap (λ (n : List (List ℕ)). encoding saved_names n) (sym loaded);
        fits = subst (IsWithinLimits saved_names) (sym loaded) fits;
        chosen = subst (λ (n : List (List ℕ)). AreChosen only n first.chosen) same chosen;
      },
    )

-- ---- one file

all_are_facts : (facts : List Fact) → AllByRecursion (IsWithinLimits saved_fact) facts → AllByRecursion IsFact facts
all_are_facts [] fit = tt
all_are_facts (f ∷ facts) fit = (said_is_fact f fit.0.node fit.0.says, all_are_facts facts fit.1)

module _ (octets : List ℕ → Option (List ℕ)) (path : List ℕ) where
  -- nothing was read of the file yet
  pub scan_begun : (now : InputDevice) (s : Scan) → now.path ≡ path → now.known ≡ octets path → IsScan no_input None s
      → IsScanning octets path now None s
  scan_begun now s at is new = record {
    input = no_input;
    read = record {
      path = at;
      taken = subst (λ (z : Option (List ℕ)). Consumes (octets path) z []) (sym is) (Consumes-nil (octets path));
      ended = λ x. absurd (Prim.cc x);
    };
    scan = new;
  }

  -- the next piece of it was read
  pub scan_fed : (old new : InputDevice) (found : Found) (s t : Scan) (piece : List ℕ)
      (h : IsScanning octets path old found s) → h.input.ended ≡ false → new.path ≡ old.path
      → Consumes old.known new.known piece → IsScan (fed piece h.input) found t → IsScanning octets path new found t
  scan_fed old new found s t piece h unended at more scan = record {
    input = fed piece h.input;
    read = taken (stream_at octets path) old new h.input piece unended at more h.read;
    scan = scan;
  }

  -- its end was read
  pub scan_ended : (old new : InputDevice) (found : Found) (s t : Scan) (h : IsScanning octets path old found s)
      → new.path ≡ old.path → Consumes old.known new.known [] → IsAtEnd new.known → IsScan (at_end h.input) found t
      → IsScanning octets path new found t
  scan_ended old new found s t h at none end scan = record {
    input = at_end h.input;
    read = ended (stream_at octets path) old new h.input at none end h.read;
    scan = scan;
  }

  -- it could not be read
  pub read_refused : (now : InputDevice) (found : Found) (s : Scan) (f : Fault) (at : Bor (List ℕ))
      → IsScanning octets path now found s → at.now ≡ now.path → f ≡ Read at → now.known ≡ None
      → IsFaultAt octets path f
  read_refused now found s f at h is of none =
      rw of (is ∙ h.read.path, unknown_before (octets path) now.known h.input.octets h.read.taken none)

  module _ (now : InputDevice) (s t : Scan) (found : Found) (h : IsScanning octets path now found s) where
    -- octets are needed
    pub need_read : (step : ScanStep) → step ≡ steps.Need → AfterScan h.input found step t
        → (k : IsScanning octets path now found t) × (k.input.ended ≡ false)
    need_read step is after =
        let need : AfterScan h.input found steps.Need t =
        subst (λ (x : ScanStep). AfterScan h.input found x t) is after in
        (record { input = h.input; read = h.read; scan = need.0 }, need.1)

    -- the file is refused
    pub scan_refused : (step : ScanStep) (e : LoadError) (at : Bor (List ℕ)) → step ≡ steps.Refused e
        → at.now ≡ now.path → AfterScan h.input found step t → IsFaultAt octets path (of_load at e)
    scan_refused step e at is same after =
        let fault : IsFaultOf h.input e = subst (λ (x : ScanStep). AfterScan h.input found x t) is after in
        by e (begins (stream_at octets path) now h.input h.read (λ file. IsLoadFault file e) fault.file)
      where
        by : (e : LoadError) → IfSome (octets path) (λ file. IsLoadFault file e) → IsFaultAt octets path (of_load at e)
        by (loads.NotKnowledge index) fault = (same ∙ h.read.path, fault)
        by (loads.NotCanonical index) fault = (same ∙ h.read.path, fault)
        by loads.Memory fault = tt

  module _ (now : InputDevice) (s t : Scan) where
    names_after : (found : Found) (h : IsScanning octets path now found s) → AfterScan h.input found steps.Names t
        → AfterNames octets path now found t
    names_after None h after = (after.0, record { input = h.input; read = h.read; scan = after.1 })
    names_after (Some found) h after = absurd after

    fact_after : (found : Found) (p : FactPlace) (h : IsScanning octets path now found s)
        → AfterScan h.input found (steps.Fact p) t → AfterFact octets path now found p t
    fact_after None p h after = absurd after
    fact_after (Some found) p h after =
        (after.0, after.1, record { input = h.input; read = h.read; scan = after.2 })

    end_after : (found : Found) (h : IsScanning octets path now found s) → AfterScan h.input found steps.Done t
        → AfterEnd octets path found
    end_after None h after = absurd after
    end_after (Some found) h after = record {
      saved = begins (stream_at octets path) now h.input h.read (λ file. IsSaved found.0 found.1 file)
          (λ file is. subst (IsSaved found.0 found.1)
          (sym (is.cut ∙ ap (λ (l : List ℕ). h.input.octets ++ l) (is.whole after.0)
          ∙ append-nil h.input.octets)) after.1);
      are = record { ordered = after.1.ordered; each = all_are_facts found.1 after.1.facts_fit };
      fit = after.1.facts_fit;
    }

    module _ (found : Found) (step : ScanStep) (h : IsScanning octets path now found s) where
      -- the names were read
      pub names_read : step ≡ steps.Names → AfterScan h.input found step t → AfterNames octets path now found t
      names_read is after = names_after found h (subst (λ (x : ScanStep). AfterScan h.input found x t) is after)

      -- a fact was read
      pub fact_read : (p : FactPlace) → step ≡ steps.Fact p → AfterScan h.input found step t
          → AfterFact octets path now found p t
      fact_read p is after = fact_after found p h (subst (λ (x : ScanStep). AfterScan h.input found x t) is after)

      -- all was read
      pub end_read : step ≡ steps.Done → AfterScan h.input found step t → AfterEnd octets path found
      end_read is after = end_after found h (subst (λ (x : ScanStep). AfterScan h.input found x t) is after)

-- ---- several files

module _ (octets : List ℕ → Option (List ℕ)) (names : List (List ℕ)) where
  pub each_count : (paths : List (List ℕ)) (theirs : List (List Fact)) → AreSavedEach octets names paths theirs
      → length theirs ≡ length paths
  each_count [] [] each = refl
  each_count [] (facts ∷ theirs) each = absurd each
  each_count (path ∷ paths) [] each = absurd each
  each_count (path ∷ paths) (facts ∷ theirs) each = ap suc (each_count paths theirs each.3)

  -- one file more
  pub each_more : (paths : List (List ℕ)) (theirs : List (List Fact)) (path : List ℕ) (facts : List Fact)
      → AreSavedEach octets names paths theirs → AreFactsAt octets path names facts
      → AreSavedEach octets names (paths ++ path ∷ []) (theirs ++ facts ∷ [])
  each_more [] [] path facts each has = (has.saved, has.are, has.fit, tt)
  each_more [] (fs ∷ theirs) path facts each has = absurd each
  each_more (p ∷ paths) [] path facts each has = absurd each
  each_more (p ∷ paths) (fs ∷ theirs) path facts each has =
      (each.0, each.1, each.2, each_more paths theirs path facts each.3 has)

  -- the file of this number
  pub saved_at : (paths : List (List ℕ)) (theirs : List (List Fact)) → AreSavedEach octets names paths theirs → (k : ℕ)
      (d : List Fact) → k < length theirs
      → IfSome (file_at octets paths k) (λ file. IsSaved names (slice_index_or theirs k d) file)
  saved_at [] [] each k d lt = absurd (omega (arith, lt))
  saved_at [] (facts ∷ theirs) each k d lt = absurd each
  saved_at (path ∷ paths) [] each k d lt = absurd each
  saved_at (path ∷ paths) (facts ∷ theirs) each zero d lt = each.0
  saved_at (path ∷ paths) (facts ∷ theirs) each (suc k) d lt = saved_at paths theirs each.3 k d (omega (arith, lt))

-- the octets of the file of a number are not known
pub unknown_at : (octets : List ℕ → Option (List ℕ)) (paths : List (List ℕ)) (k : ℕ) → k < length paths
    → file_at octets paths k ≡ None → HasUnknown octets paths
unknown_at octets paths k lt none = (slice_index_or paths k [], Contains-get_or paths k [] lt, none)
