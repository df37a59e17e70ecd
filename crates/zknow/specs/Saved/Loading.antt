-- The state of a file that is read.
use Rattle.std.specs.Prelude.{◌≡◌, ℕ, ◌<◌, ◌≤◌, List, [], ◌∷◌, ◌++◌, length, take, Option, Some, None, ⊤}
use Rattle.std.specs.declared.cmp.Ordering.{Ordering}
use Rattle.std.specs.declared.cmp.Ordering.TheVariants.{Less}
use Rattle.std.specs.Ordering.{nat_cmp, int_cmp, ordering_then}
use Rattle.zknow.specs.declared.fact.Fact.{Fact}
use Rattle.zknow.specs.declared.saved.front.FrontError.{FrontError}
use Rattle.zknow.specs.declared.saved.front.FrontError.TheVariants as front
use Rattle.zknow.specs.declared.saved.loading.LoadError.{LoadError}
use Rattle.zknow.specs.declared.saved.loading.LoadError.TheVariants.{NotKnowledge, NotCanonical, Memory}
use Rattle.zknow.specs.declared.saved.loading.Loading.{Loading}
use Rattle.zknow.specs.Facts.{fact_cmp, fact_kind, fact_target, fact_set, fact_number}
use Rattle.zknow.specs.Saved.Saved.{IsSaved}

-- the fault of the element with this index
abbrev pub fault_at : ℕ → FrontError → LoadError
fault_at at front.NoValue = NotKnowledge at
fault_at at front.NotCanonical = NotCanonical at
fault_at at front.Memory = Memory

-- the fact order without the record or diagnostic
abbrev pub fact_key_cmp : Fact → Fact → Ordering
fact_key_cmp a b =
    ordering_then (nat_cmp (fact_kind a) (fact_kind b))
    (ordering_then (nat_cmp (fact_target a) (fact_target b))
    (ordering_then (nat_cmp (fact_set a) (fact_set b))
    (int_cmp (fact_number a) (fact_number b))))

-- the fact is above the last one
abbrev pub IsAbove : Option Fact → Fact → Type 0
IsAbove None f = ⊤
IsAbove (Some g) f = fact_cmp g f ≡ Less

-- the last of the facts
abbrev pub IsLast : List Fact → Option Fact → Type 0
IsLast facts None = facts ≡ []
IsLast facts (Some g) = (front : List Fact) × (facts ≡ front ++ g ∷ [])

-- the first `at` octets of the file are the saved file of the names and facts read
pub record IsLoadedUpTo (file : List ℕ) (l : Loading) : Type 0 where
  pub within : l.at ≤ length file
  pub saved : IsSaved l.names l.knowledge (take l.at file)
  pub last : IsLast l.knowledge l.last
  pub count : l.count ≡ length l.knowledge
  pub some : l.count < l.at
