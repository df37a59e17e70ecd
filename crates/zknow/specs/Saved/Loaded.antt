-- The fault of a file that is not a saved file: the first element at fault, by its index. The element of the names has
-- index 0, that of the first fact 1.
use Rattle.std.specs.Prelude.{◌≡◌, ◌≢◌, ◌⊎◌, ℕ, ◌+◌, ◌<◌, List, [], ◌∷◌, ◌++◌, length, ⊤}
use Rattle.std.specs.List.Sorted.{IsStrictlySortedBy}
use Rattle.zasn.specs.Place.{Place}
use Rattle.zknow.specs.declared.fact.Fact.{Fact}
use Rattle.zknow.specs.declared.saved.loading.LoadError.{LoadError}
use Rattle.zknow.specs.declared.saved.loading.LoadError.TheVariants.{NotKnowledge, NotCanonical, Memory}
use Rattle.zknow.specs.Encodings.{encoding}
use Rattle.zknow.specs.Facts.{fact_cmp}
use Rattle.zknow.specs.Saved.SavedFacts.{saved_names, saved_fact}
use Rattle.zknow.specs.Saved.Saved.{IsElement, IsSaved}

-- the octets begin with `spelling`, which is one element of the value, and `rest` comes after it
pub record HasFrontValue {A : Type 0} (p : Place A) (x : A) (octets spelling rest : List ℕ) : Type 0 where
  pub cut : octets ≡ spelling ++ rest
  pub element : IsElement p x spelling

-- the octets do not begin with an element of any value
abbrev pub HasNoFrontValue : {A : Type 0} → Place A → List ℕ → Type 0
HasNoFrontValue {A} p octets = (x : A) (spelling rest : List ℕ) → HasFrontValue p x octets spelling rest → ⊥

-- the file begins with the saved file of these names and facts, and `rest` comes after it
pub record IsSoundUpTo (file : List ℕ) (names : List (List ℕ)) (facts : List Fact) (rest : List ℕ) : Type 0 where
  pub front : List ℕ
  pub cut : file ≡ front ++ rest
  pub saved : IsSaved names facts front
  pub more : 0 < length rest

-- all elements before this one are sound, and this one is no fact
pub record IsNoFact (file : List ℕ) (at : ℕ) : Type 0 where
  pub names : List (List ℕ)
  pub facts : List Fact
  pub rest : List ℕ
  pub sound : IsSoundUpTo file names facts rest
  pub place : at ≡ length facts + 1
  pub none : HasNoFrontValue saved_fact rest

-- the file begins with names, and they are not encoded canonically
pub record AreNoncanonicalNames (file : List ℕ) : Type 0 where
  pub names : List (List ℕ)
  pub spelling : List ℕ
  pub rest : List ℕ
  pub begins : HasFrontValue saved_names names file spelling rest
  pub odd : spelling ≢ encoding saved_names names

-- all elements before this one are sound, and this one is a fact that is not encoded canonically or not above all facts
-- before it
pub record IsNoncanonicalFact (file : List ℕ) (at : ℕ) : Type 0 where
  pub names : List (List ℕ)
  pub facts : List Fact
  pub rest : List ℕ
  pub sound : IsSoundUpTo file names facts rest
  pub place : at ≡ length facts + 1
  pub fact : Fact
  pub spelling : List ℕ
  pub after : List ℕ
  pub begins : HasFrontValue saved_fact fact rest spelling after
  pub odd : (spelling ≢ encoding saved_fact fact) ⊎ (IsStrictlySortedBy fact_cmp (facts ++ fact ∷ []) → ⊥)

-- the element with this index is no names, or no fact
abbrev pub IsNotKnowledge : List ℕ → ℕ → Type 0
IsNotKnowledge file at = ((at ≡ 0) × HasNoFrontValue saved_names file) ⊎ IsNoFact file at

-- the element with this index is not canonical, or its fact is not above all before it
abbrev pub IsNotCanonical : List ℕ → ℕ → Type 0
IsNotCanonical file at = ((at ≡ 0) × AreNoncanonicalNames file) ⊎ IsNoncanonicalFact file at

-- the fault of the file
abbrev pub IsLoadFault : List ℕ → LoadError → Type 0
IsLoadFault file (NotKnowledge at) = IsNotKnowledge file at
IsLoadFault file (NotCanonical at) = IsNotCanonical file at
IsLoadFault file Memory = ⊤
