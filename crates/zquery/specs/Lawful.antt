-- What holds of each query that a program has: its sets are object identifiers, and its numbers are of 64 bits.
use Rattle.std.specs.Prelude.{ℕ, List, [], ◌∷◌, Option, Some, None}
use Rattle.std.specs.Int.{w64}
use Rattle.std.specs.Int.RustNames.{FitsSigned}
use Rattle.zber.specs.Oids.{IsOid}
use Rattle.zquery_rpn.specs.declared.query.Attr.{Attr}
use Rattle.zquery_rpn.specs.declared.query.TermValue.{TermValue}
use Rattle.zquery_rpn.specs.declared.query.TermValue.TheVariants.{Numeric}
use Rattle.zquery_rpn.specs.Trees.{Tree, OfTerm, OfSet, OfSetAttrs, Of, OfProx, RpnQuery}

-- the set, if there is one, is an object identifier
abbrev pub IsLawfulSet : Option (List ℕ) → Type 0
IsLawfulSet None = Unit {0}
IsLawfulSet (Some set) = IsOid set

-- the own set of each attribute is an object identifier
abbrev pub AreLawfulAttrs : List Attr → Type 0
AreLawfulAttrs [] = Unit {0}
AreLawfulAttrs (a ∷ xs) = IsLawfulSet a.attr_set × AreLawfulAttrs xs

-- the number of a numeric term is of 64 bits
abbrev pub IsLawfulTerm : TermValue → Type 0
IsLawfulTerm (Numeric n) = FitsSigned w64 n
IsLawfulTerm _ = Unit {0}

-- the attributes and terms of the tree are lawful
abbrev pub IsLawfulTree : Tree → Type 0
IsLawfulTree (OfTerm xs v) = AreLawfulAttrs xs × IsLawfulTerm v
IsLawfulTree (OfSet name) = Unit {0}
IsLawfulTree (OfSetAttrs name xs) = AreLawfulAttrs xs
IsLawfulTree (Of o a b) = IsLawfulTree a × IsLawfulTree b
IsLawfulTree (OfProx e a b) = IsLawfulTree a × IsLawfulTree b

-- the query's set is an object identifier, and its tree is lawful
pub record IsLawfulQuery (q : RpnQuery) : Type 0 where
  pub attr_set : IsOid q.attr_set
  pub root : IsLawfulTree q.root
