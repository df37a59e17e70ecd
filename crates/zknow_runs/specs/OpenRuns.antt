-- Runs that are read, in the order of their next records' positions.
use Rattle.std.specs.Prelude.{◌≡◌, ◌<ℤ◌, ◌<◌, ℕ, List, ◌∷◌, ◌++◌, map}
use Rattle.std.specs.BTreeMap.{BTreeMap, values}
use Rattle.std.specs.List.{AllByRecursion}
use Rattle.zknow_runs.specs.declared.open_runs.OpenRun.{OpenRun}
use Rattle.zknow_runs.specs.declared.open_runs.RunKey.{RunKey}
use Rattle.zknow_runs.specs.declared.run.Run.{Run}

-- what is left of the runs, by the positions of their next records, and then in the order in which they were put
abbrev pub in_order : BTreeMap RunKey OpenRun → List Run
in_order runs = map (λ o. o.run) (values runs)

-- the key has the position of the run, and one of the first numbers
pub record IsKeyOf (count : ℕ) (e : RunKey × OpenRun) : Type 0 where
  pub position : e.0.position ≡ e.1.run.position
  pub below : e.0.count < count

-- each run stands under its position and one of the first numbers
abbrev pub AreKeyed : ℕ → BTreeMap RunKey OpenRun → Type 0
AreKeyed count runs = AllByRecursion (IsKeyOf count) runs.entries

-- the run was put among the others, which stay
pub record IsPutAmong (old new : List Run) (run : Run) : Type 0 where
  pub before : List Run
  pub after : List Run
  pub was : old ≡ before ++ after
  pub is : new ≡ before ++ run ∷ after

-- no run has its next record at a lower position
abbrev pub IsLeast : Run → List Run → Type 0
IsLeast run others = AllByRecursion (λ r. r.position <ℤ run.position → ⊥) others
