-- The text that is printed for a query, and which queries have a text.
use Rattle.std.specs.Prelude.{ℕ, ℤ, pos, negsuc, List, [], ◌∷◌, ◌++◌, Bool, true, false, ◌==◌, ◌||◌, ◌&&◌, not, codes, Option, Some, None, nat_le, if◌then◌else◌}
use Rattle.std.specs.Fmt.{signed_decimal}
use Rattle.std.specs.List.{flat_map, list_any}
use Rattle.std.specs.Str.{bytes_eq}
use Rattle.zber.specs.Dotted.{dotted}
use Rattle.zquery_rpn.specs.declared.query.Attr.{Attr}
use Rattle.zquery_rpn.specs.declared.query.AttrValue.{AttrValue}
use Rattle.zquery_rpn.specs.declared.query.AttrValue.TheVariants.{Number, Complex}
use Rattle.zquery_rpn.specs.declared.query.TermValue.{TermValue}
use Rattle.zquery_rpn.specs.declared.query.TermValue.TheVariants.{General, Numeric, Text, Other}
use Rattle.zquery_rpn.specs.declared.operator.Operator.{Operator}
use Rattle.zquery_rpn.specs.declared.operator.Operator.TheVariants.{And, Or, Not}
use Rattle.zquery.specs.InForce.{alike}
use Rattle.zquery.specs.Notation.Sets.{bib1}
use Rattle.zquery_rpn.specs.Trees.{Tree, OfTerm, OfSet, OfSetAttrs, Of, OfProx, RpnQuery, height}
use Rattle.zquery.specs.Notation.Values.{most}

-- an octet in quotes: a quote and a backslash have a backslash before them
abbrev pub escaped : ℕ → List ℕ
escaped b = if (b == 34) || (b == 92) then 92 ∷ b ∷ [] else b ∷ []

-- the text in quotes
abbrev pub in_quotes : List ℕ → List ℕ
in_quotes text = 34 ∷ (flat_map escaped text ++ 34 ∷ [])

-- an attribute's own set, in decimal with dots, and a space; nothing where the attribute has none
abbrev pub set_text : Option (List ℕ) → List ℕ
set_text None = []
set_text (Some set) = dotted set ++ codes " "

-- an attribute's value in decimal; a complex value has no text
abbrev pub value_text : AttrValue → List ℕ
value_text (Number n) = signed_decimal n
value_text (Complex e) = []

-- `@attr`, the attribute's own set, then its type and value with an equals sign between them, and a space
abbrev pub attr_text : Attr → List ℕ
attr_text a =
    codes "@attr " ++ (set_text a.attr_set
    ++ (signed_decimal a.kind ++ (codes "=" ++ (value_text a.value ++ codes " "))))

-- a term in quotes, behind `@term` and its type unless it is general; a term of any other type has no text
abbrev pub term_text : TermValue → List ℕ
term_text (General text) = in_quotes text
term_text (Numeric n) = codes "@term numeric " ++ in_quotes (signed_decimal n)
term_text (Text text) = codes "@term string " ++ in_quotes text
term_text (Other e) = []

-- the word of an operator in the prefix notation, and a space
abbrev pub operator_text : Operator → List ℕ
operator_text And = codes "@and "
operator_text Or = codes "@or "
operator_text Not = codes "@not "

-- a tree in the prefix notation: attributes before their operand, an operator before its trees; proximity has no text
abbrev pub tree_text : Tree → List ℕ
tree_text (OfTerm xs v) = flat_map attr_text xs ++ term_text v
tree_text (OfSet name) = codes "@set " ++ in_quotes name
tree_text (OfSetAttrs name xs) = flat_map attr_text xs ++ (codes "@set " ++ in_quotes name)
tree_text (Of o a b) = operator_text o ++ (tree_text a ++ (codes " " ++ tree_text b))
tree_text (OfProx e a b) = []

-- `@attrset` and the query's set, unless this is bib-1
abbrev pub opening_text : List ℕ → List ℕ
opening_text own = if bytes_eq own bib1 then [] else codes "@attrset " ++ (dotted own ++ codes " ")

-- the text that is printed for a query: its set unless this is bib-1, and its tree
abbrev pub query_text : RpnQuery → List ℕ
query_text q = opening_text q.attr_set ++ tree_text q.root

-- the number can be the type or the value of an attribute
abbrev pub is_attr_number : ℤ → Bool
is_attr_number (pos n) = nat_le n most
is_attr_number (negsuc n) = false

-- the value has a text: it is a number from 0 to 2147483647, and not complex
abbrev pub plain_value : AttrValue → Bool
plain_value (Number n) = is_attr_number n
plain_value (Complex e) = false

-- an attribute's set is the query's own
abbrev pub is_own_set : List ℕ → Option (List ℕ) → Bool
is_own_set own None = false
is_own_set own (Some set) = bytes_eq own set

-- the attribute has a text
abbrev pub plain_attr : List ℕ → Attr → Bool
plain_attr own a = not (is_own_set own a.attr_set) && (is_attr_number a.kind && plain_value a.value)

-- each attribute has a text, and no two have the same set and type
abbrev pub plain_attrs : List ℕ → List Attr → Bool
plain_attrs own [] = true
plain_attrs own (a ∷ xs) = plain_attr own a && (not (list_any (alike a) xs) && plain_attrs own xs)

-- the term has a text: it is general, numeric or a string
abbrev pub plain_term : TermValue → Bool
plain_term (Other e) = false
plain_term _ = true

-- each part of the tree has a text
abbrev pub plain_tree : List ℕ → Tree → Bool
plain_tree own (OfTerm xs v) = plain_attrs own xs && plain_term v
plain_tree own (OfSet name) = true
plain_tree own (OfSetAttrs name []) = false
plain_tree own (OfSetAttrs name (a ∷ xs)) = plain_attrs own (a ∷ xs)
plain_tree own (Of o a b) = plain_tree own a && plain_tree own b
plain_tree own (OfProx e a b) = false

-- the query has a text
abbrev pub printable : RpnQuery → Bool
printable q = nat_le (height q.root) 32 && plain_tree q.attr_set q.root
