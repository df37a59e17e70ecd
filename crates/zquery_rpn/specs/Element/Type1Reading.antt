-- The type-1 query that an element stands for, and the element that stands for a query.
use Rattle.std.specs.Prelude.{◌≡◌, ℕ, List, [], ◌∷◌, Option, Some, None, Result, Ok, Err, if◌then◌else◌}
use Rattle.zber.specs.AsnTags.{AsnTag, context, universal}
use Rattle.zber.specs.Elements.{Forest, end, leaf, branch, Element, Primitive, Constructed, elements, tag_of}
use Rattle.zber.specs.Tags.{same_tag}
use Rattle.zasn.specs.Reading.{option_map}
use Rattle.zasn.specs.Within.{around, whole_of}
use Rattle.zasn.specs.Places.{oid}
use Rattle.zasn.specs.declared.error.PartError.{PartError}
use Rattle.zasn.specs.declared.error.PartError.TheVariants.{Misfit, Memory}
use Rattle.zquery_rpn.specs.declared.query.Rpn.{Rpn}
use Rattle.zquery_rpn.specs.Trees.{Tree, OfTerm, OfSet, OfSetAttrs, Of, OfProx, RpnQuery}
use Rattle.zquery_rpn.specs.QueryTrees.{rpn_tree}
use Rattle.zquery_rpn.specs.Element.Operands.{Operand, AttrTerm, ResultSet, ResultAttr}
use Rattle.zquery_rpn.specs.declared.element.operator.Joint.TheVariants.{Logical, ProxOperator}
use Rattle.zquery_rpn.specs.declared.element.operator.Joint.{Joint}
use Rattle.zquery_rpn.specs.Element.Operators.{operator}
use Rattle.zquery_rpn.specs.Element.Type1.{op}

-- the tree of an operand
abbrev pub of_operand : Operand → Tree
of_operand (AttrTerm p) = OfTerm p.0 p.1
of_operand (ResultSet name) = OfSet name
of_operand (ResultAttr p) = OfSetAttrs p.0 p.1

-- the tree of an operator and two trees
abbrev pub of_joint : Joint → Tree → Tree → Tree
of_joint (Logical o) a b = Of o a b
of_joint (ProxOperator m) a b = OfProx m a b

-- ---- reading

-- the tree of all three parts, or none
abbrev pub joined_tree : Option Tree → Option Tree → Option Joint → Option Tree
joined_tree (Some a) (Some b) (Some o) = Some (of_joint o a b)
joined_tree (Some a) (Some b) None = None
joined_tree (Some a) None o = None
joined_tree None b o = None

-- the tree of two structures and an operator, and of nothing else
abbrev pub joined_tree_of : List (Option Tree × Element) → Option Tree
joined_tree_of [] = None
joined_tree_of (x ∷ []) = None
joined_tree_of (x ∷ y ∷ []) = None
joined_tree_of (x ∷ y ∷ z ∷ []) = joined_tree x.0 y.0 (whole_of operator z.1)
joined_tree_of (x ∷ y ∷ z ∷ w ∷ ws) = None

-- the tree of a constructed element, from its tag, the elements within, and these elements with their trees
abbrev pub tree_in : AsnTag → Forest → List (Option Tree × Element) → Option Tree
tree_in t f xs =
    if same_tag t (context 0) then option_map of_operand (op.meaning (Constructed t f)) else
    if same_tag t (context 1) then joined_tree_of xs else None

-- the elements of a run, each with its tree, if it has one
abbrev pub trees : Forest → List (Option Tree × Element)
trees end = []
trees (leaf t bs rest) = (None, Primitive t bs) ∷ trees rest
trees (branch t f rest) = (tree_in t f (trees f), Constructed t f) ∷ trees rest

-- the tree of an element, if it has one
abbrev pub tree_of : Element → Option Tree
tree_of (Primitive t bs) = None
tree_of (Constructed t f) = tree_in t f (trees f)

-- an element with its tree, if it has one
abbrev pub tree_and_element : Element → Option Tree × Element
tree_and_element e = (tree_of e, e)

-- the query of a default set and a tree, if there are both
abbrev pub query_from : Option (List ℕ) → Option Tree → Option RpnQuery
query_from (Some set) (Some root) = Some (record { attr_set = set; root = root })
query_from (Some set) None = None
query_from None root = None

-- the query of two elements, a default set and a structure, and of nothing else
abbrev pub query_in : List Element → Option RpnQuery
query_in [] = None
query_in (n ∷ []) = None
query_in (n ∷ m ∷ []) = query_from (whole_of (oid (universal 6)) n) (tree_of m)
query_in (n ∷ m ∷ k ∷ ns) = None

-- the query of an element, whatever its tag
abbrev pub element_query : Element → Option RpnQuery
element_query (Primitive t bs) = None
element_query (Constructed t f) = query_in (elements f)

-- the query of an element with the tag [1]
abbrev pub query_at : Element → Option RpnQuery
query_at n = if same_tag (tag_of n) (context 1) then element_query n else None

-- ---- writing

-- all elements, or none
abbrev pub two : Option Element → Option Element → Option (List Element)
two (Some n) (Some m) = Some (n ∷ m ∷ [])
two (Some n) None = None
two None m = None

-- the three elements in this order, or none if any of them is missing
abbrev pub three : Option Element → Option Element → Option Element → Option (List Element)
three (Some n) (Some m) (Some k) = Some (n ∷ m ∷ k ∷ [])
three (Some n) (Some m) None = None
three (Some n) None k = None
three None m k = None

-- the element that stands for a tree
abbrev pub tree_spelling : Tree → Option Element
tree_spelling (OfTerm xs v) = op.spelling (AttrTerm (xs, v))
tree_spelling (OfSet name) = op.spelling (ResultSet name)
tree_spelling (OfSetAttrs name xs) = op.spelling (ResultAttr (name, xs))
tree_spelling (Of o a b) =
    around (context 1) (three (tree_spelling a) (tree_spelling b) (operator.spelling (Logical o)))
tree_spelling (OfProx m a b) =
    around (context 1) (three (tree_spelling a) (tree_spelling b) (operator.spelling (ProxOperator m)))

-- the element that stands for a query
abbrev pub query_spelling : RpnQuery → Option Element
query_spelling q = around (context 1) (two ((oid (universal 6)).spelling q.attr_set) (tree_spelling q.root))

-- ---- what readers return

-- the result is this tree, or `Misfit` if there is none, unless no memory was found
abbrev pub IsTreeResult : Option Tree → Result Rpn PartError → Type 0
IsTreeResult meaning (Ok r) = meaning ≡ Some (rpn_tree r)
IsTreeResult meaning (Err Misfit) = meaning ≡ None
IsTreeResult meaning (Err Memory) = Unit {0}
