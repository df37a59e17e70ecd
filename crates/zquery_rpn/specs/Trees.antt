-- Queries as data (Z39.50-2003, RPNQuery and RPNStructure).
use Rattle.std.specs.Prelude.{ℕ, ◌+◌, max, List}
use Rattle.zber.specs.Elements.{Element}
use Rattle.zquery_rpn.specs.declared.query.Attr.{Attr}
use Rattle.zquery_rpn.specs.declared.query.TermValue.{TermValue}
use Rattle.zquery_rpn.specs.declared.operator.Operator.{Operator}

-- a term, a result set, a result set with attributes, two trees with an operator, or two trees with proximity
pub data Tree : Type 0 where
  OfTerm : List Attr → TermValue → Tree
  OfSet : List ℕ → Tree
  OfSetAttrs : List ℕ → List Attr → Tree
  Of : Operator → Tree → Tree → Tree
  OfProx : Element → Tree → Tree → Tree

-- the default attribute set and a tree
pub record RpnQuery : Type 0 where
  pub attr_set : List ℕ
  pub root : Tree

-- an operand has height 1, and an operator one more than its higher operand
abbrev pub height : Tree → ℕ
height (OfTerm xs v) = 1
height (OfSet name) = 1
height (OfSetAttrs name xs) = 1
height (Of o a b) = max (height a) (height b) + 1
height (OfProx e a b) = max (height a) (height b) + 1
