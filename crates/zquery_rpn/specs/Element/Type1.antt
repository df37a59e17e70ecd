-- Which element stands for a type-1 query (Z39.50-2003, 4.1: RPNQuery, RPNStructure).
use Rattle.std.specs.Prelude.{List, [], ◌∷◌, Option, Some, None}
use Rattle.zber.specs.AsnTags.{context, universal}
use Rattle.zber.specs.Elements.{Element}
use Rattle.zasn.specs.Standing.{required, ended, sequence}
use Rattle.zasn.specs.Place.{Place}
use Rattle.zasn.specs.Places.{oid, explicit}
use Rattle.zquery_rpn.specs.Trees.{Tree, OfTerm, OfSet, OfSetAttrs, Of, OfProx, RpnQuery}
use Rattle.zquery_rpn.specs.Element.Operands.{Operand, AttrTerm, ResultSet, ResultAttr, operand}
use Rattle.zquery_rpn.specs.declared.element.operator.Joint.TheVariants.{Logical, ProxOperator}
use Rattle.zquery_rpn.specs.Element.Operators.{operator}

-- `P` holds of the first element, and `rest` of the others
abbrev pub first_and_rest : (Element → Type 0) → (List Element → Type 0) → List Element → Type 0
first_and_rest P rest [] = ⊥
first_and_rest P rest (n ∷ ns) = P n × rest ns

-- op [0] EXPLICIT Operand
abbrev pub op : Place Operand
op = explicit (context 0) operand

-- RPNStructure: op, or rpnRpnOp [1] IMPLICIT SEQUENCE of two structures and an operator
abbrev pub WritesTree : Tree → Element → Type 0
WritesTree (OfTerm xs v) n = op.writes (AttrTerm (xs, v)) n
WritesTree (OfSet name) n = op.writes (ResultSet name) n
WritesTree (OfSetAttrs name xs) n = op.writes (ResultAttr (name, xs)) n
WritesTree (Of o a b) n =
    sequence (context 1)
    (first_and_rest (WritesTree a) (first_and_rest (WritesTree b) (required operator.writes (Logical o) ended))) n
WritesTree (OfProx m a b) n =
    sequence (context 1)
    (first_and_rest (WritesTree a) (first_and_rest (WritesTree b) (required operator.writes (ProxOperator m) ended))) n

-- type-1 [1] IMPLICIT RPNQuery: attributeSet OBJECT IDENTIFIER, rpn RPNStructure
abbrev pub WritesQuery : RpnQuery → Element → Type 0
WritesQuery q n =
    sequence (context 1) (required (oid (universal 6)).writes q.attr_set (required WritesTree q.root ended)) n

-- the type-1 query that the element stands for; none if it stands for none
abbrev pub IsQueryOfElement : Element → Option RpnQuery → Type 0
IsQueryOfElement n (Some q) = WritesQuery q n
IsQueryOfElement n None = (q : RpnQuery) → WritesQuery q n → ⊥
