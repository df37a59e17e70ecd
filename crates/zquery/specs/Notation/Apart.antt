-- The sets and types of the attributes of an operand, as keys of an ordered set.
use Rattle.std.specs.Prelude.{◌≡◌, ℕ, ℤ, Bool, ◌&&◌, List, Option}
use Rattle.std.specs.Borrow.{Bor}
use Rattle.std.specs.BTreeSet.{BTreeSet, contains}
use Rattle.std.specs.Cmp.Lexicographic.{slice_cmp}
use Rattle.std.specs.declared.cmp.Ordering.{Ordering}
use Rattle.std.specs.List.{list_any}
use Rattle.std.specs.Option.{option_map, option_cmp}
use Rattle.std.specs.Ordering.{ordering_then, nat_cmp, int_cmp, int_eq}
use Rattle.zquery_rpn.specs.declared.query.Attr.{Attr}
use Rattle.zquery.specs.InForce.{same_set}

-- a set, if there is one, and a type
abbrev pub Key : Type 0
Key = Option (Bor (List ℕ)) × ℤ

-- the order of keys: by set, then by type
abbrev pub attr_key_cmp : Key → Key → Ordering
attr_key_cmp x y = ordering_then (option_cmp (λ a b. slice_cmp nat_cmp a.now b.now) x.0 y.0) (int_cmp x.1 y.1)

-- the key is the set and type of the attribute
abbrev pub is_key_of : Key → Attr → Bool
is_key_of q a = same_set (option_map (λ s. s.now) q.0) a.attr_set && int_eq q.1 a.kind

-- the keys are exactly those of the attributes
abbrev pub AreAttrKeys : BTreeSet Key → List Attr → Type 0
AreAttrKeys keys attrs = (q : Key) → contains attr_key_cmp keys q ≡ list_any (is_key_of q) attrs
