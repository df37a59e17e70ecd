-- Runs: records that stand one after the other in one saved file, and whose positions do not fall.
use Rattle.std.specs.Prelude.{◌≡◌, ◌≤ℤ◌, ℕ, ℤ, List, [], ◌∷◌, ◌++◌, Option, Some, None, ⊤}
use Rattle.std.specs.List.{flat_map}
use Rattle.zknow_runs.specs.declared.run.OpenEnd.{OpenEnd}
use Rattle.zknow_runs.specs.declared.run.Run.{Run}
use Rattle.zknow_runs.specs.declared.run.RunList.{RunList}

-- A record is written as the run of it alone.

-- the records fill the octets of the file between these bounds, one after the other
abbrev pub AreBetween : ℕ → ℕ → ℕ → List Run → Type 0
AreBetween file begin end [] = begin ≡ end
AreBetween file begin end (p ∷ ps) = (p.file ≡ file) × (p.begin ≡ begin) × AreBetween file p.end end ps

-- no record is at a lower position than the one before it
abbrev pub DoNotFall : List Run → Type 0
DoNotFall [] = ⊤
DoNotFall (p ∷ []) = ⊤
DoNotFall (p ∷ q ∷ ps) = (p.position ≤ℤ q.position) × DoNotFall (q ∷ ps)

-- the first record is at this position
abbrev pub BeginsAt : ℤ → List Run → Type 0
BeginsAt position [] = ⊥
BeginsAt position (p ∷ ps) = p.position ≡ position

-- the run is that of these records
pub record IsRunOf (r : Run) (ps : List Run) : Type 0 where
  pub first : BeginsAt r.position ps
  pub between : AreBetween r.file r.begin r.end ps
  pub rise : DoNotFall ps

-- the runs are those of these lists of records, one by one
abbrev pub AreRunsOf : List Run → List (List Run) → Type 0
AreRunsOf [] [] = ⊤
AreRunsOf [] (p ∷ ps) = ⊥
AreRunsOf (r ∷ rs) [] = ⊥
AreRunsOf (r ∷ rs) (p ∷ ps) = IsRunOf r p × AreRunsOf rs ps

-- the records of all lists, in order
abbrev pub all_of : List (List Run) → List Run
all_of parts = flat_map (λ part. part) parts

-- each record is in one of the runs, in order
abbrev pub AreAllRuns : List Run → List Run → Type 0
AreAllRuns runs records = (parts : List (List Run)) × AreRunsOf runs parts × (records ≡ all_of parts)

-- the record goes on with a run: it stands right behind it in the same file, and not at a lower position than the last
pub record GoesOn (open_end : OpenEnd) (p : Run) : Type 0 where
  pub file : open_end.run.file ≡ p.file
  pub behind : open_end.run.end ≡ p.begin
  pub above : open_end.last.position ≤ℤ p.position

-- the last run is that of these records, if there are any
abbrev pub IsEndOf : Option OpenEnd → List Run → Type 0
IsEndOf None last = last ≡ []
IsEndOf (Some o) last = IsRunOf o.run last
    × ((front : List Run) × (last ≡ front ++ o.last ∷ []))

-- the list has the runs of these records
pub record HoldsRuns (records : List Run) (l : RunList) : Type 0 where
  pub parts : List (List Run)
  pub last : List Run
  pub closed : AreRunsOf l.closed.items parts
  pub end : IsEndOf l.last last
  pub all : records ≡ all_of parts ++ last
