-- A query that can be printed, and whose sets and numbers are lawful, is spelled.
use Rattle.std.proofs.Common.{◌≡◌, refl, ◌∙◌, ap, ℕ, ℤ, pos, negsuc, List, [], ◌∷◌, ◌++◌, true, not, Option, Some, None, arith}
use Rattle.std.specs.Int.RustNames.{FitsSigned}
use Rattle.std.specs.Int.{w64}
use Rattle.std.proofs.lemmas.Bool.{and_parts, leb-true, cond-true}
use Rattle.zber.specs.AsnTags.{AsnTag, context, universal}
use Rattle.zber.specs.Elements.{Element, Primitive, Constructed, forest}
use Rattle.zber.specs.Integers.{integer_octets}
use Rattle.zber.specs.Oids.{IsOid, oid_octets}
use Rattle.zasn.specs.Reading.{option_map}
use Rattle.zasn.specs.Building.{◌>>=◌, required_put, optional_put}
use Rattle.zasn.specs.Place.{Place}
use Rattle.zasn.specs.Within.{around, with_head, all_spellings}
use Rattle.zber.proofs.OidTest.{is_oid_pass}
use Rattle.zasn_tables.proofs.Meanings.{fits_i64}
use Rattle.zasn.specs.Places.{integer, oid, explicit}
use Rattle.zquery_rpn.specs.declared.query.Attr.{Attr}
use Rattle.zquery_rpn.specs.declared.query.AttrValue.{AttrValue}
use Rattle.zquery_rpn.specs.declared.query.AttrValue.TheVariants.{Number, Complex}
use Rattle.zquery_rpn.specs.declared.query.TermValue.{TermValue}
use Rattle.zquery_rpn.specs.declared.query.TermValue.TheVariants.{General, Numeric, Text, Other}
use Rattle.zquery.specs.Notation.Values.{most}
use Rattle.zquery_rpn.specs.Trees.{Tree, OfTerm, OfSet, OfSetAttrs, Of, OfProx, RpnQuery}
use Rattle.zquery_rpn.specs.Element.Operands.{AttrTerm, ResultSet, ResultAttr, value, attribute_parts, attribute, attributes, term, attributes_term_parts, set_attributes_parts, operand}
use Rattle.zquery.specs.Notation.Printing.{is_attr_number, is_own_set, plain_value, plain_attr, plain_attrs, plain_term, plain_tree}
use Rattle.zquery.specs.Lawful.{IsLawfulSet, AreLawfulAttrs, IsLawfulTerm, IsLawfulTree}
use Rattle.zquery_rpn.specs.Element.Type1Reading.{two, three, tree_spelling, query_spelling}
use Rattle.zquery_rpn.proofs.ElementTheory.OperatorSpelled.{operator_spelled}

-- there is a spelling
abbrev HasSpelling : {A : Type 0} → Option A → Type 0
HasSpelling {A = A} o = (x : A) × (o ≡ Some x)

map-spelled : {A B : Type 0} (f : A → B) (o : Option A) → HasSpelling o → HasSpelling (option_map f o)
map-spelled f o s = (f s.0, ap (option_map f) s.1)

then-spelled : {A B : Type 0} (o : Option A) (f : A → Option B) → HasSpelling o → ((x : A) → HasSpelling (f x)) → HasSpelling (o >>= f)
then-spelled {A} o f s g = let r = g s.0 in (r.0, ap (λ (z : Option A). z >>= f) s.1 ∙ r.1)

put-spelled : {A : Type 0} (spelt : A → Option Element) (x : A) (out : List Element) → HasSpelling (spelt x) → HasSpelling (required_put spelt x out)
put-spelled spelt x out s = map-spelled (λ n. out ++ n ∷ []) (spelt x) s

around-spelled : (tag : AsnTag) (made : Option (List Element)) → HasSpelling made → HasSpelling (around tag made)
around-spelled tag made s = map-spelled (λ ns. Constructed tag (forest ns)) made s

explicit-spelled : {A : Type 0} (tag : AsnTag) (p : Place A) (x : A) → HasSpelling (p.spelling x) → HasSpelling ((explicit tag p).spelling x)
explicit-spelled tag p x s =
    around-spelled tag (required_put p.spelling x [] >>= λ out. Some out)
    (then-spelled (required_put p.spelling x []) (λ out. Some out) (put-spelled p.spelling x [] s) (λ out. (out, refl)))

with_head-spelled : {A : Type 0} (o : Option A) (os : Option (List A)) → HasSpelling o → HasSpelling os → HasSpelling (with_head o os)
with_head-spelled {A} o os s r = (s.0 ∷ r.0, ap (λ (z : Option A). with_head z os) s.1 ∙ ap (λ (zs : Option (List A)). with_head (Some s.0) zs) r.1)

-- sets and numbers
oid-spelled : (tag : AsnTag) (arcs : List ℕ) → IsOid arcs → HasSpelling ((oid tag).spelling arcs)
oid-spelled tag arcs h = (Primitive tag (oid_octets arcs), cond-true _ _ _ (is_oid_pass arcs h))

integer-spelled : (tag : AsnTag) (z : ℤ) → FitsSigned w64 z → HasSpelling ((integer tag).spelling z)
integer-spelled tag z h = (Primitive tag (integer_octets z), cond-true _ _ _ (fits_i64 z h))

range-fits : (z : ℤ) → is_attr_number z ≡ true → FitsSigned w64 z
range-fits (pos n) h = record { sfits = omega (arith, leb-true n most h) }
range-fits (negsuc n) h = absurd (Prim.cc h)

-- attributes
value-spelled : (v : AttrValue) → plain_value v ≡ true → HasSpelling (value.spelling v)
value-spelled (Number n) h = integer-spelled (context 121) n (range-fits n h)
value-spelled (Complex e) h = absurd (Prim.cc h)

set-spelled : (set : Option (List ℕ)) → IsLawfulSet set → HasSpelling (optional_put (oid (context 1)).spelling set [])
set-spelled None h = ([], refl)
set-spelled (Some set) h = put-spelled (oid (context 1)).spelling set [] (oid-spelled (context 1) set h)

attribute-spelled : (own : List ℕ) (a : Attr) → plain_attr own a ≡ true → IsLawfulSet a.attr_set → HasSpelling (attribute.spelling a)
unfolding attribute_parts
attribute-spelled own a h l =
    let numbers = and_parts (is_attr_number a.kind) (plain_value a.value) (and_parts (not (is_own_set own a.attr_set)) _ h).1 in
    around-spelled (universal 16) _
    (then-spelled (optional_put (oid (context 1)).spelling a.attr_set []) _ (set-spelled a.attr_set l) (λ one.
    then-spelled (required_put (integer (context 120)).spelling a.kind one) _ (put-spelled (integer (context 120)).spelling a.kind one (integer-spelled (context 120) a.kind (range-fits a.kind numbers.0))) (λ more.
    then-spelled (required_put value.spelling a.value more) _ (put-spelled value.spelling a.value more (value-spelled a.value numbers.1)) (λ out. (out, refl)))))

all-spelled : (own : List ℕ) (xs : List Attr) → plain_attrs own xs ≡ true → AreLawfulAttrs xs → HasSpelling (all_spellings attribute.spelling xs)
all-spelled own [] h l = ([], refl)
all-spelled own (a ∷ xs) h l =
    let parts = and_parts (plain_attr own a) _ h in
    with_head-spelled (attribute.spelling a) (all_spellings attribute.spelling xs) (attribute-spelled own a parts.0 l.0) (all-spelled own xs (and_parts _ (plain_attrs own xs) parts.1).1 l.1)

attributes-spelled : (own : List ℕ) (xs : List Attr) → plain_attrs own xs ≡ true → AreLawfulAttrs xs → HasSpelling (attributes.spelling xs)
attributes-spelled own xs h l = around-spelled (context 44) (all_spellings attribute.spelling xs) (all-spelled own xs h l)

-- operands
term-spelled : (v : TermValue) → plain_term v ≡ true → IsLawfulTerm v → HasSpelling (term.spelling v)
unfolding term
term-spelled (General text) h l = (Primitive (context 45) text, refl)
term-spelled (Numeric n) h l = integer-spelled (context 215) n l
term-spelled (Text text) h l = (Primitive (context 216) text, refl)
term-spelled (Other e) h l = absurd (Prim.cc h)

attr-term-spelled : (xs : List Attr) (v : TermValue) → HasSpelling (attributes.spelling xs) → HasSpelling (term.spelling v) → HasSpelling (operand.spelling (AttrTerm (xs, v)))
unfolding operand attributes_term_parts
attr-term-spelled xs v s r =
    around-spelled (context 102) _
    (then-spelled (required_put attributes.spelling xs []) _ (put-spelled attributes.spelling xs [] s) (λ one.
    then-spelled (required_put term.spelling v one) _ (put-spelled term.spelling v one r) (λ out. (out, refl))))

result-set-spelled : (name : List ℕ) → HasSpelling (operand.spelling (ResultSet name))
unfolding operand
result-set-spelled name = (Primitive (context 31) name, refl)

result-attr-spelled : (name : List ℕ) (xs : List Attr) → HasSpelling (attributes.spelling xs) → HasSpelling (operand.spelling (ResultAttr (name, xs)))
unfolding operand set_attributes_parts
result-attr-spelled name xs s =
    around-spelled (context 214) _
    (then-spelled (required_put attributes.spelling xs (Primitive (context 31) name ∷ [])) _ (put-spelled attributes.spelling xs (Primitive (context 31) name ∷ []) s) (λ out. (out, refl)))

-- structures
three-spelled : (o p r : Option Element) → HasSpelling o → HasSpelling p → HasSpelling r → HasSpelling (three o p r)
three-spelled o p r s t u =
    (s.0 ∷ t.0 ∷ u.0 ∷ [], ap (λ (z : Option Element). three z p r) s.1 ∙ ap (λ (z : Option Element). three (Some s.0) z r) t.1 ∙ ap (three (Some s.0) (Some t.0)) u.1)

tree-spelled : (own : List ℕ) (q : Tree) → plain_tree own q ≡ true → IsLawfulTree q → HasSpelling (tree_spelling q)
tree-spelled own (OfTerm xs v) h l =
    let parts = and_parts (plain_attrs own xs) (plain_term v) h in
    explicit-spelled (context 0) operand (AttrTerm (xs, v)) (attr-term-spelled xs v (attributes-spelled own xs parts.0 l.0) (term-spelled v parts.1 l.1))
tree-spelled own (OfSet name) h l = explicit-spelled (context 0) operand (ResultSet name) (result-set-spelled name)
tree-spelled own (OfSetAttrs name []) h l = absurd (Prim.cc h)
tree-spelled own (OfSetAttrs name (a ∷ xs)) h l =
    explicit-spelled (context 0) operand (ResultAttr (name, a ∷ xs)) (result-attr-spelled name (a ∷ xs) (attributes-spelled own (a ∷ xs) h l))
tree-spelled own (Of o a b) h l =
    let parts = and_parts (plain_tree own a) (plain_tree own b) h in
    around-spelled (context 1) _ (three-spelled (tree_spelling a) (tree_spelling b) _ (tree-spelled own a parts.0 l.0) (tree-spelled own b parts.1 l.1) (operator_spelled o))
tree-spelled own (OfProx e a b) h l = absurd (Prim.cc h)

-- queries
two-spelled : (o p : Option Element) → HasSpelling o → HasSpelling p → HasSpelling (two o p)
two-spelled o p s t = (s.0 ∷ t.0 ∷ [], ap (λ (z : Option Element). two z p) s.1 ∙ ap (two (Some s.0)) t.1)

pub query-spelled : (q : RpnQuery) → IsOid q.attr_set → plain_tree q.attr_set q.root ≡ true → IsLawfulTree q.root → (n : Element) × (query_spelling q ≡ Some n)
query-spelled q o h l =
    around-spelled (context 1) (two ((oid (universal 6)).spelling q.attr_set) (tree_spelling q.root))
    (two-spelled ((oid (universal 6)).spelling q.attr_set) (tree_spelling q.root) (oid-spelled (universal 6) q.attr_set o) (tree-spelled q.attr_set q.root h l))
