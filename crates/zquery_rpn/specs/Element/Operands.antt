-- The operands of a type-1 query as elements (Z39.50-2003, 4.1: AttributeElement, AttributeList, Term, Operand).
use Rattle.std.specs.Prelude.{◌≡◌, ℕ, List, [], ◌∷◌, refl}
use Rattle.std.proofs.Common.{inl, inr}
use Rattle.zber.specs.AsnTags.{AsnTag, context, universal}
use Rattle.zasn.specs.Place.{Place}
use Rattle.zasn.specs.Choice.{Choice, either, finally, Pick, picked}
use Rattle.zasn.specs.Table.{ComponentTable, required, optional, ended, ◌⨾◌, Elements}
use Rattle.zasn.specs.Places.{of_table, of_choice, octets, integer, oid, opaque, kept, within, list}
use Rattle.zquery_rpn.specs.declared.query.Attr.{Attr}
use Rattle.zquery_rpn.specs.declared.query.AttrValue.{AttrValue}
use Rattle.zquery_rpn.specs.declared.query.AttrValue.TheVariants.{Number, Complex}
use Rattle.zquery_rpn.specs.declared.query.TermValue.{TermValue}
use Rattle.zquery_rpn.specs.declared.query.TermValue.TheVariants.{General, Numeric, Text, Other}

-- attributeValue: numeric [121] IMPLICIT INTEGER, complex [224] IMPLICIT SEQUENCE, which is kept
abbrev pub values : Choice AttrValue
values =
    either (integer (context 121)) Number
    (finally (opaque (context 224)) Complex)

-- the kind of an attribute value, with its number or the element that is kept
abbrev pub value_pick : AttrValue → Pick values
value_pick (Number n) = inl n
value_pick (Complex m) = inr m

pub value-same : (v : AttrValue) → picked values (value_pick v) ≡ v
value-same (Number n) = refl
value-same (Complex m) = refl

pub value-back : (x : Pick values) → value_pick (picked values x) ≡ x
value-back (inl n) = refl
value-back (inr m) = refl

-- attributeValue: a number with the tag [121], or a complex value with the tag [224]
abbrev pub value : Place AttrValue
value = of_choice values value_pick value-same value-back refl

-- AttributeElement: attributeSet [1] OPTIONAL, attributeType [120], attributeValue
abbrev pub attribute_table : ComponentTable Attr
attribute_table =
    optional (oid (context 1)) (λ a. a.attr_set)
    ⨾ required (integer (context 120)) (λ a. a.kind)
    ⨾ required value (λ a. a.value)
    ⨾ ended

-- AttributeElement (Z39.50-2003, 4.1): how its elements are read and built
unfoldable pub attribute_parts : Elements Attr
attribute_parts =
    of_table attribute_table (λ a b c. record { attr_set = a; kind = b; value = c }) (λ a. refl) (λ x. refl) refl

-- AttributeElement: its components, in an element with the tag of SEQUENCE (universal 16)
abbrev pub attribute : Place Attr
attribute = within (universal 16) attribute_parts

-- AttributeList: [44] IMPLICIT SEQUENCE OF AttributeElement
abbrev pub attributes : Place (List Attr)
attributes = list (context 44) attribute

-- the terms that are kept: oid [217], dateTime [218], external [219], integerAndUnit [220] and null [221]
abbrev pub kept_terms : List AsnTag
kept_terms = context 217 ∷ context 218 ∷ context 219 ∷ context 220 ∷ context 221 ∷ []

-- Term: general [45] IMPLICIT OCTET STRING, numeric [215] IMPLICIT INTEGER, characterString [216] IMPLICIT
-- InternationalString, and the others, which are kept
abbrev pub terms : Choice TermValue
terms =
    either (octets (context 45)) General
    (either (integer (context 215)) Numeric
    (either (octets (context 216)) Text
    (finally (kept (context 217) (context 218 ∷ context 219 ∷ context 220 ∷ context 221 ∷ [])) Other)))

-- the kind of a term, with its octets, its number, its string or the element that is kept
abbrev pub term_pick : TermValue → Pick terms
term_pick (General xs) = inl xs
term_pick (Numeric n) = inr (inl n)
term_pick (Text xs) = inr (inr (inl xs))
term_pick (Other m) = inr (inr (inr m))

pub term-same : (v : TermValue) → picked terms (term_pick v) ≡ v
term-same (General xs) = refl
term-same (Numeric n) = refl
term-same (Text xs) = refl
term-same (Other m) = refl

pub term-back : (x : Pick terms) → term_pick (picked terms x) ≡ x
term-back (inl xs) = refl
term-back (inr (inl n)) = refl
term-back (inr (inr (inl xs))) = refl
term-back (inr (inr (inr m))) = refl

-- the place of a Term, a choice
unfoldable pub term : Place TermValue
term = of_choice terms term_pick term-same term-back refl

-- AttributesPlusTerm: attributes, term
abbrev pub attributes_term_table : ComponentTable (List Attr × TermValue)
attributes_term_table = required attributes (λ p. p.0) ⨾ required term (λ p. p.1) ⨾ ended

-- AttributesPlusTerm (Z39.50-2003, 4.1): how its elements are read and built
unfoldable pub attributes_term_parts : Elements (List Attr × TermValue)
attributes_term_parts = of_table attributes_term_table (λ a b. (a, b)) (λ p. refl) (λ x. refl) refl

-- ResultSetPlusAttributes: resultSet [31] IMPLICIT InternationalString, attributes
abbrev pub set_attributes_table : ComponentTable (List ℕ × List Attr)
set_attributes_table = required (octets (context 31)) (λ p. p.0) ⨾ required attributes (λ p. p.1) ⨾ ended

-- ResultSetPlusAttributes (Z39.50-2003, 4.1): how its elements are read and built
unfoldable pub set_attributes_parts : Elements (List ℕ × List Attr)
set_attributes_parts = of_table set_attributes_table (λ a b. (a, b)) (λ p. refl) (λ x. refl) refl

-- Operand: attrTerm [102] IMPLICIT AttributesPlusTerm, resultSet [31], resultAttr [214] IMPLICIT
-- ResultSetPlusAttributes
pub data Operand : Type 0 where
  AttrTerm : List Attr × TermValue → Operand
  ResultSet : List ℕ → Operand
  ResultAttr : List ℕ × List Attr → Operand

-- the three kinds of Operand, each of which has its own tag: [102], [31] or [214]
abbrev pub operands : Choice Operand
operands =
    either (within (context 102) attributes_term_parts) AttrTerm
    (either (octets (context 31)) ResultSet
    (finally (within (context 214) set_attributes_parts) ResultAttr))

-- the kind of an operand, with what an operand of this kind has
abbrev pub operand_pick : Operand → Pick operands
operand_pick (AttrTerm p) = inl p
operand_pick (ResultSet name) = inr (inl name)
operand_pick (ResultAttr p) = inr (inr p)

pub operand-same : (o : Operand) → picked operands (operand_pick o) ≡ o
operand-same (AttrTerm p) = refl
operand-same (ResultSet name) = refl
operand-same (ResultAttr p) = refl

pub operand-back : (x : Pick operands) → operand_pick (picked operands x) ≡ x
operand-back (inl p) = refl
operand-back (inr (inl name)) = refl
operand-back (inr (inr p)) = refl

-- the place of an Operand, a choice
unfoldable pub operand : Place Operand
operand = of_choice operands operand_pick operand-same operand-back refl
