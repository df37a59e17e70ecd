-- A table of joins: the list of its keys in order, each with its value. Its items are pairs of a key and an item of
-- that key's value.
use Rattle.std.specs.Prelude.{◌≡◌, List, Option, Some, IsSomeAnd}
use Rattle.std.specs.declared.cmp.Ordering.{Ordering}
use Rattle.std.specs.BTreeMap.{is_at}
use Rattle.std.specs.Map.{lookup, keys_of}
use Rattle.std.specs.List.Sorted.{IsStrictlySortedBy}

-- the value of the table at the key, if it has one
abbrev pub value_at_key : {K J : Type 0} → (K → K → Ordering) → List (K × J) → K → Option J
value_at_key cmp t k = lookup (is_at (cmp k)) t

-- the items at the key, of the set M
abbrev pub IsAtKey : {K I : Type 0} → K → (I → Type 0) → K × I → Type 0
IsAtKey key M x = (x.0 ≡ key) × M x.1

module _ {K J I : Type 0} (cmp : K → K → Ordering) (holds : J → I → Type 0) where
  -- the value at the item's key has the item
  abbrev pub HasItem : List (K × J) → K × I → Type 0
  HasItem t x = IsSomeAnd (value_at_key cmp t x.0) (λ j. holds j x.1)

  -- the keys are in order, and the value at each is lawful and has an item
  pub record IsLawfulTable (lawful : J → Type 0) (t : List (K × J)) : Type 0 where
    pub ordered : IsStrictlySortedBy cmp (keys_of t)
    pub values : (k : K) (j : J) → value_at_key cmp t k ≡ Some j → lawful j
    pub some : (k : K) (j : J) → value_at_key cmp t k ≡ Some j → (x : I) × holds j x
