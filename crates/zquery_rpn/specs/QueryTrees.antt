-- A `Query` as plain data.
use Rattle.zquery_rpn.specs.declared.query.Query.TheInside.{Inside}
use Rattle.zquery_rpn.specs.declared.query.Rpn.{Rpn, Term, ResultSet, SetAttrs, And', Or', Not', Prox'}
use Rattle.zquery_rpn.specs.declared.operator.Operator.TheVariants.{And, Or, Not}
use Rattle.zquery_rpn.specs.Trees.{Tree, OfTerm, OfSet, OfSetAttrs, Of, OfProx, RpnQuery}

-- a tree without the addresses of its parts
abbrev pub rpn_tree : Rpn → Tree
rpn_tree (Term attrs term) = OfTerm attrs term
rpn_tree (ResultSet name) = OfSet name
rpn_tree (SetAttrs name attrs) = OfSetAttrs name attrs
rpn_tree (And' p a q b) = Of And (rpn_tree a) (rpn_tree b)
rpn_tree (Or' p a q b) = Of Or (rpn_tree a) (rpn_tree b)
rpn_tree (Not' p a q b) = Of Not (rpn_tree a) (rpn_tree b)
rpn_tree (Prox' e p a q b) = OfProx e (rpn_tree a) (rpn_tree b)

-- a query without the addresses of its parts
abbrev pub rpn_query : Inside → RpnQuery
rpn_query q = record { attr_set = q.attr_set; root = rpn_tree q.root }
