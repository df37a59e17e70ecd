-- The laws of joins: files have one join at most, whatever their order, also if one comes twice, and however they are
-- grouped.
use Rattle.std.specs.Prelude.{◌≡◌, ◌↔◌, ℕ, List, [], ◌∷◌, ◌++◌, Contains}
use Rattle.zknow.specs.declared.fact.Fact.{Fact}
use Rattle.zknow.specs.Saved.Saved.{IsSaved}
use Rattle.zknow_merge.specs.Joins.{IsJoin}

pub record JoinLaws : Type 0 where
  -- at most one join
  pub one : (files : List (List ℕ)) (a b : List ℕ) → IsJoin files a → IsJoin files b → a ≡ b
  -- neither the order of the files nor repetition matters
  pub order : (files others : List (List ℕ)) (a : List ℕ)
      → ((file : List ℕ) → Contains files file ↔ Contains others file) → IsJoin files a → IsJoin others a
  -- the join of one file is that file
  pub alone : (names : List (List ℕ)) (facts : List Fact) (file : List ℕ) → IsSaved names facts file
      → IsJoin (file ∷ []) file
  -- a join takes the place of its files in another join
  pub nested : (files others : List (List ℕ)) (a b : List ℕ) → IsJoin files a → IsJoin (a ∷ others) b
      → IsJoin (files ++ others) b
