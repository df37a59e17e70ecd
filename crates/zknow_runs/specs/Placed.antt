-- Where the records that are taken stand in saved files: each as the run of it alone.
use Rattle.std.specs.Prelude.{ℕ, ℤ, suc, ◌<◌, List, [], ◌∷◌, ◌++◌, length, slice_index_or, if◌then◌else◌, Contains, Option, Some, None}
use Rattle.std.specs.Option.{IsSome}
use Rattle.zknow.specs.declared.fact.Fact.{Fact}
use Rattle.zknow.specs.Saved.Saved.{saved}
use Rattle.zknow_runs.specs.declared.rows.Chosen.{Chosen}
use Rattle.zknow_runs.specs.declared.run.Run.{Run}
use Rattle.zknow_runs.specs.Rows.{place_of, is_taken, IsTaken}

-- the run of one record at a position of a file, behind the names and these facts
abbrev pub run_of : List (List ℕ) → ℕ → List Fact → Fact → ℤ → Run
run_of names file front f position =
    record {
      position = position;
      file = file;
      begin = length (saved names front);
      end = length (saved names (front ++ f ∷ []));
    }

-- the run of a fact that has this target and position, if it is a record that is taken
abbrev pub runs_at : Chosen → List (List ℕ) → ℕ → List Fact → Fact → Option (ℕ × ℤ) → List Run
runs_at c names file front f None = []
runs_at c names file front f (Some at) = if is_taken c at.0 then run_of names file front f at.1 ∷ [] else []

-- the records of a file that are taken, behind the names and these facts
abbrev pub placed : Chosen → List (List ℕ) → ℕ → List Fact → List Fact → List Run
placed c names file front [] = []
placed c names file front (f ∷ fs) =
    runs_at c names file front f (place_of f) ++ placed c names file (front ++ f ∷ []) fs

-- the records of several files that are taken, by the facts of each; the first file has this number
abbrev pub all_placed : Chosen → List (List ℕ) → ℕ → List (List Fact) → List Run
all_placed c names file [] = []
all_placed c names file (fs ∷ theirs) = placed c names file [] fs ++ all_placed c names (suc file) theirs

-- a file whose octets are known has the fact, which has a record that is taken
pub record IsKnownTaken (files : ℕ → Option (List ℕ)) (c : Chosen) (theirs : List (List Fact)) (f : Fact)
    : Type 0 where
  pub number : ℕ
  pub among : number < length theirs
  pub known : IsSome (files number)
  pub here : Contains (slice_index_or theirs number []) f
  pub taken : IsTaken c f
