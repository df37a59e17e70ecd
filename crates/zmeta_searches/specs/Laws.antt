-- The query of terms, and the law that their text stands for it.
use Rattle.std.specs.Prelude.{◌≡◌, ℕ, pos, ◌<◌, false, List, [], ◌∷◌, length, map, None}
use Rattle.zquery_rpn.specs.declared.operator.Operator.TheVariants.{And}
use Rattle.zquery_rpn.specs.declared.query.Attr.{Attr}
use Rattle.zquery_rpn.specs.declared.query.AttrValue.TheVariants.{Number}
use Rattle.zquery_rpn.specs.declared.query.TermValue.TheVariants.{General}
use Rattle.zquery.specs.Trees.{Tree, OfTerm, Of, RpnQuery}
use Rattle.zquery.specs.Notation.Sets.{bib1}
use Rattle.zquery.specs.Notation.Texts.{IsText}
use Rattle.zmeta_searches.specs.Terms.{AskedTerm, attributes_of, asked_octets}
use Rattle.zmeta_searches.specs.Texts.{any_blank, terms_text}

-- an attribute of the query's set
abbrev pub attr_of : ℕ × ℕ → Attr
attr_of attribute = record { attr_set = None; kind = pos attribute.0; value = Number (pos attribute.1) }

-- the operand of a term: the octets that are asked for, with its attributes
abbrev pub operand_of : AskedTerm → Tree
operand_of t = OfTerm (map attr_of (attributes_of t.access t.text)) (General (asked_octets t.access t.text))

-- a tree and further terms, all of which a record has to match
abbrev pub joined_tree : Tree → List AskedTerm → Tree
joined_tree tree [] = tree
joined_tree tree (t ∷ ts) = joined_tree (Of And tree (operand_of t)) ts

-- the query of terms: its set is bib-1, and its operands are those of the terms, in order, and no others
abbrev pub query_of : AskedTerm → List AskedTerm → RpnQuery
query_of t ts = record { attr_set = bib1; root = joined_tree (operand_of t) ts }

-- the text of at most 32 terms stands for their query, if something is left of each
abbrev pub ReadTerms : Type 0
ReadTerms = (t : AskedTerm) (ts : List AskedTerm) → length ts < 32 → any_blank (t ∷ ts) ≡ false
    → IsText (terms_text (t ∷ ts)) (query_of t ts)
