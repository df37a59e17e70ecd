-- All files were scanned, or one of them is refused.
use Rattle.std.proofs.Common.{◌≡◌, ◌∙◌, refl, sym, ap, subst, arith, ℕ, ◌+◌, ◌-◌, ◌<◌, List, [], ◌∷◌, ◌++◌, length, take, drop, get_or, append-nil, Option, Err, Contains}
use Rattle.std.specs.Borrow.{Bor}
use Rattle.std.proofs.lemmas.List.{map-append, take_all, length-drop, length-map, length-take-le}
use Rattle.zknow.specs.declared.fact.Fact.{Fact}
use Rattle.zknow.specs.Tables.DistinctLaws.{in_head}
use Rattle.zknow_runs.specs.Placed.{all_placed}
use Rattle.zknow_runs.specs.Runs.{HoldsRuns, AreAllRuns, IsRunOf}
use Rattle.zknow_runs.specs.declared.run.Run.{Run}
use Rattle.zknow_runs.proofs.CoverTheory.{runs_cover}
use Rattle.zknow_runs.proofs.PlacedTheory.{run_has_part, all_each}
use Rattle.zmeta_args.specs.Texts.{texts_of}
use Rattle.zmeta_devices.specs.declared.fault.Fault.{Fault}
use Rattle.zmeta_devices.specs.declared.fault.Fault.TheVariants.{Read, NotKnowledge, NotCanonical, NamesDiffer, NoCatalogue, Memory}
use Rattle.zmeta_offline.specs.Join.{AreJoined, IsFaultAt, IsRefusedAmong}
use Rattle.zmeta_offline.specs.Join.IsRefusedAmong.{first, later, other_names}
use Rattle.zmeta_offline.specs.Marked.{AreMarked, ScanFilesResult, file_at, HasUnknown}
use Rattle.zmeta_offline.specs.Names.{AreAllKnown, IsFirstUnknown}
use Rattle.zmeta_offline.specs.Records.{HasNoCatalogue}
use Rattle.zmeta_offline.specs.Scanned.{IsMarkedFile, IsFirst, IsRefusedBehind, IsScannedTo}
use Rattle.zmeta_offline.specs.declared.scanned.First.{First}
use Rattle.zmeta_offline.specs.declared.scanned.Marked.{Marked}
use Rattle.zmeta_offline.specs.declared.scanned.Marks.{Marks}
use Rattle.zmeta_offline.specs.declared.scanned.Noting.{Noting}
use Rattle.zmeta_offline.proofs.Joining.{until, split, no_write}
use Rattle.zmeta_offline.proofs.Noting.{marks_all, failed_is}
use Rattle.zmeta_offline.proofs.NotingOthers.{all_noted}
use Rattle.zmeta_offline.proofs.SavedEach.{joined_each}
use Rattle.zmeta_offline.proofs.Scanning.{each_count, each_more, saved_at, unknown_at}

-- there is a path
pub some_path : (paths : List (Bor (List ℕ))) (path : List ℕ) (rest : List (List ℕ)) → texts_of paths ≡ path ∷ rest
    → 0 < length paths
some_path [] path rest is = absurd (Prim.cc is)
some_path (p ∷ paths) path rest is = omega arith

-- all behind the first
pub behind_first : {X : Type 0} (xs : List X) → take (length xs - 1) (drop 1 xs) ≡ drop 1 xs
behind_first xs = take_all (length xs - 1) (drop 1 xs) (omega (arith, length-drop 1 xs))

-- the paths are that of the first file and those of the others
pub first_and_others : (paths : List (Bor (List ℕ))) (p d : Bor (List ℕ)) (rest : List (Bor (List ℕ)))
    → 0 < length paths → p ≡ get_or paths 0 d → rest ≡ drop 1 paths → texts_of paths ≡ p.now ∷ texts_of rest
first_and_others [] p d rest some is behind = absurd (omega (arith, some))
first_and_others (q ∷ paths) p d rest some is behind = rw (is, behind) refl

-- a run has a record of its file
first_record : (r : Run) (part : List Run) → IsRunOf r part → (p : Run) × Contains part p × (p.file ≡ r.file)
first_record r [] is = absurd is.first
first_record r (p ∷ part) is = (p, in_head p part, is.between.0)

module _ (octets : List ℕ → Option (List ℕ)) where
  -- ---- one file more

  -- the first file was scanned
  pub first_scanned : (only : List (List ℕ)) (path : List ℕ) (f : First) (m : Marks) → IsFirst only f
      → IsMarkedFile octets path f [] f.names m → IsScannedTo octets only (path ∷ []) f m
  first_scanned only path f m is h = record {
    theirs = h.facts ∷ [];
    saved = (h.has.saved, h.has.are, h.has.fit, tt);
    first_is = is;
    marks = marks_all f [] h.facts m h.marks;
  }

  -- another was, which has the same names
  pub other_scanned : (only paths own : List (List ℕ)) (path : List ℕ) (f : First) (old new : Marks)
      (s : IsScannedTo octets only paths f old) → f.names ≡ own
      → IsMarkedFile octets path f s.theirs own new
      → IsScannedTo octets only (paths ++ path ∷ []) f new
  other_scanned only paths own path f old new s same h =
      let of_first : IsMarkedFile octets path f s.theirs f.names new =
      subst (λ (names : List (List ℕ)). IsMarkedFile octets path f s.theirs names new) (sym same) h in
      record {
        theirs = s.theirs ++ of_first.facts ∷ [];
        saved = each_more octets f.names paths s.theirs path of_first.facts s.saved of_first.has;
        first_is = s.first_is;
        marks = marks_all f s.theirs of_first.facts new of_first.marks;
      }

  -- a fault of a file behind others
  pub fault_behind : (names : List (List ℕ)) (path : List ℕ) (f : Fault) → IsFaultAt octets path f
      → IsRefusedBehind octets names path f
  fault_behind names path (Read told) h = h
  fault_behind names path (NotKnowledge refused at) h = h
  fault_behind names path (NotCanonical refused at) h = h
  fault_behind names path Memory h = tt
  fault_behind names path f h = absurd h

  among : (names paths : List (List ℕ)) (facts : List Fact) (path : List ℕ) (rest : List (List ℕ)) (f : Fault)
      → AreJoined octets names paths facts → IsRefusedBehind octets names path f
      → IsRefusedAmong octets (paths ++ path ∷ rest) f
  among names paths facts path rest (Read told) joined h = later paths names rest facts path joined h
  among names paths facts path rest (NotKnowledge refused at) joined h = later paths names rest facts path joined h
  among names paths facts path rest (NotCanonical refused at) joined h = later paths names rest facts path joined h
  among names paths facts path rest Memory joined h = later paths names rest facts path joined h
  among names paths facts path rest NamesDiffer joined h = other_names paths names rest facts path joined h
  among names paths facts path rest f joined h = absurd h

  -- ---- the files behind the first
  module _ (only : List (List ℕ)) (path : List ℕ) (others : List (Bor (List ℕ))) (f : First) (i : ℕ)
      (p : Bor (List ℕ)) (lt : i < length others) (is : p ≡ get_or others i p) where
    abbrev pub so_far : List (List ℕ)
    so_far = texts_of (take i others)

    -- the number of the file
    pub number_is : (number : ℕ) → number ≡ i → number + 1 ≡ length (path ∷ so_far)
    number_is number same =
        let count : length so_far ≡ i = length-map (take i others) (λ (q : Bor (List ℕ)). q.now)
        ∙ length-take-le i others (omega (arith, lt)) in
        omega (arith, same, count)

    pub scanned_more : (new : Marks) → IsScannedTo octets only ((path ∷ so_far) ++ p.now ∷ []) f new
        → IsScannedTo octets only (path ∷ texts_of (take (i + 1) others)) f new
    scanned_more new h =
        let to : texts_of (take (i + 1) others) ≡ so_far ++ p.now ∷ [] =
        ap texts_of (until others i p lt is) ∙ map-append (λ (q : Bor (List ℕ)). q.now) (take i others) (p ∷ []) in
        subst (λ (paths : List (List ℕ)). IsScannedTo octets only (path ∷ paths) f new) (sym to) h

    pub other_refused : (m : Marks) (fault : Fault) → IsScannedTo octets only (path ∷ so_far) f m
        → IsRefusedBehind octets f.names p.now fault → IsRefusedAmong octets (path ∷ texts_of others) fault
    other_refused m fault s h =
        let joined = joined_each octets f.names path so_far s.theirs s.saved in
        subst (λ (paths : List (List ℕ)). IsRefusedAmong octets (path ∷ paths) fault) (sym (split others i p lt is))
        (among f.names (path ∷ so_far) joined.0 p.now (texts_of (drop (i + 1) others)) fault joined.1 h)

  -- ---- all files

  -- one of the files is refused
  pub scan_fault : (only paths : List (List ℕ)) (noting : Noting) (f : Fault) → IsRefusedAmong octets paths f
      → ScanFilesResult octets paths only noting (Err f)
  scan_fault only paths noting (NoCatalogue told) h = absurd (no_write octets paths (NoCatalogue told) h)
  scan_fault only paths noting Memory h = tt
  scan_fault only paths noting (Read told) h = h
  scan_fault only paths noting (NotKnowledge refused at) h = h
  scan_fault only paths noting (NotCanonical refused at) h = h
  scan_fault only paths noting NamesDiffer h = h
  scan_fault only paths noting f h = h

  pub first_fault : (only rest : List (List ℕ)) (noting : Noting) (path : List ℕ) (f : Fault)
      → IsFaultAt octets path f → ScanFilesResult octets (path ∷ rest) only noting (Err f)
  first_fault only rest noting path f h = scan_fault only (path ∷ rest) noting f (first path rest h)

  module _ (only : List (List ℕ)) (path : List ℕ) (paths : List (List ℕ)) (f : First) (m : Marks)
      (s : IsScannedTo octets only (path ∷ paths) f m) where
    -- no catalogue has a name
    pub no_catalogue : (name : List ℕ) → IsFirstUnknown only f.names name
        → HasNoCatalogue octets (path ∷ paths) only name
    no_catalogue name unknown =
        let joined = joined_each octets f.names path paths s.theirs s.saved in
        (f.names, joined.0, joined.1, unknown)

    -- each run is one of a file
    run_among : (runs records : List Run) → records ≡ all_placed f.chosen f.names 0 s.theirs → AreAllRuns runs records
        → (r : Run) → Contains runs r → r.file < length (path ∷ paths)
    run_among runs records is all r h =
        let part = run_has_part runs all.0 all.1 r h in
        let one = first_record r part.0 part.1.is in
        let among : Contains (all_placed f.chosen f.names 0 s.theirs) one.0 =
        subst (λ (rs : List Run). Contains rs one.0) (sym all.2 ∙ is) (part.1.within one.0 one.1) in
        let at = all_each f.chosen f.names 0 s.theirs one.0 among in
        omega (arith, at.1, at.2, one.2, each_count octets f.names (path ∷ paths) s.theirs s.saved)

    -- what was noted of all files
    pub all_marked : (found : Marked) → AreAllKnown only f.names → found.chosen ≡ f.chosen → found.names ≡ f.names
        → found.failed ≡ m.failed → found.others ≡ m.others
        → ((records : List Run) → HoldsRuns records m.runs → AreAllRuns found.runs.items records)
        → AreMarked octets (path ∷ paths) only f.noting found
    all_marked found known chosen named failed others finished =
        let count : length s.theirs ≡ length (path ∷ paths) =
        each_count octets f.names (path ∷ paths) s.theirs s.saved in
        let runs : HoldsRuns (all_placed f.chosen f.names 0 s.theirs) m.runs =
        subst (λ (rs : List Run). HoldsRuns rs m.runs) (append-nil (all_placed f.chosen f.names 0 s.theirs))
        s.marks.runs in
        record {
          theirs = s.theirs;
          saved = rw named s.saved;
          known = rw named known;
          chosen = rw (named, chosen) s.first_is.chosen;
          runs = rw chosen (runs_cover (file_at octets (path ∷ paths)) f.chosen f.names s.theirs
              (HasUnknown octets (path ∷ paths)) found.runs.items
              (saved_at octets f.names (path ∷ paths) s.theirs s.saved)
              (λ k lt none. unknown_at octets (path ∷ paths) k (subst (λ (n : ℕ). k < n) count lt) none)
              (finished (all_placed f.chosen f.names 0 s.theirs) runs));
          files = run_among found.runs.items (all_placed f.chosen f.names 0 s.theirs) refl
              (finished (all_placed f.chosen f.names 0 s.theirs) runs);
          failed = rw named (failed_is octets (path ∷ paths) only f.names s.theirs found.chosen found.failed
              (rw chosen s.first_is.chosen) (failed ∙ rw chosen s.marks.failed));
          others = λ noted. rw (chosen, others) (all_noted f.chosen s.theirs m.others (s.marks.others noted));
        }
