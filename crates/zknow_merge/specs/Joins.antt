-- The join of saved files: the saved file of all their facts.
use Rattle.std.specs.Prelude.{◌↔◌, ℕ, List, Contains}
use Rattle.zknow.specs.declared.fact.Fact.{Fact}
use Rattle.zknow.specs.Saved.Saved.{IsSaved}

-- the file is a saved file with these names
abbrev pub HasNames : List (List ℕ) → List ℕ → Type 0
HasNames names file = (facts : List Fact) × IsSaved names facts file

-- one of the files is a saved file that has the fact
pub record IsFactIn (files : List (List ℕ)) (f : Fact) : Type 0 where
  pub file : List ℕ
  pub among : Contains files file
  pub names : List (List ℕ)
  pub facts : List Fact
  pub saved : IsSaved names facts file
  pub has : Contains facts f

-- There is a file, and all files are saved files with the same names. The join is the saved file of these names and of
-- all facts that stand in one of the files at least.
pub record IsJoin (files : List (List ℕ)) (join : List ℕ) : Type 0 where
  pub names : List (List ℕ)
  pub facts : List Fact
  pub saved : IsSaved names facts join
  pub some : (file : List ℕ) × Contains files file
  pub each : (file : List ℕ) → Contains files file → HasNames names file
  pub union : (f : Fact) → Contains facts f ↔ IsFactIn files f
