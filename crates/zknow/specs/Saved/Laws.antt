-- The laws of saved files.
use Rattle.std.specs.Prelude.{◌≡◌, ◌≢◌, ℕ, List}
use Rattle.zknow.specs.declared.fact.Fact.{Fact}
use Rattle.zknow.specs.declared.saved.loading.LoadError.{LoadError}
use Rattle.zknow.specs.declared.saved.loading.LoadError.TheVariants.{Memory}
use Rattle.zknow.specs.Saved.Saved.{IsSaved}
use Rattle.zknow.specs.Saved.Loaded.{IsLoadFault}

-- A file is saved from one list of names and one of facts at most, has one fault at most, and not both. The error
-- `Memory` says nothing of the file.
pub record OneLoadResult : Type 0 where
  pub one_file : (file : List ℕ) (names others : List (List ℕ)) (facts more : List Fact) → IsSaved names facts file
      → IsSaved others more file → (names ≡ others) × (facts ≡ more)
  pub one_fault : (file : List ℕ) (e f : LoadError) → e ≢ Memory → f ≢ Memory → IsLoadFault file e
      → IsLoadFault file f → e ≡ f
  pub either : (file : List ℕ) (names : List (List ℕ)) (facts : List Fact) (e : LoadError) → e ≢ Memory
      → IsSaved names facts file → IsLoadFault file e → ⊥
