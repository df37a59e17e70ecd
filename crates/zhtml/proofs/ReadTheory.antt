-- The text of nodes, read back, is the nodes.
use Rattle.std.proofs.Common.{◌≡◌, ◌≢◌, ℕ, Bool, true, false, cond, List, [], ◌∷◌, ◌++◌, length, get_or, eqb, Option, Some, None, unwrap_or, refl, sym, ap, ◌∙◌, append_assoc}
use Rattle.std.specs.Prelude.{All, codes}
use Rattle.std.specs.List.{flat_map}
use Rattle.std.specs.Option.{option_map, option_and_then}
use Rattle.std.specs.Str.{bytes_eq}
use Rattle.std.proofs.lemmas.Bool.{cond_both, cond-true, eqb-true, ne_eqb}
use Rattle.std.proofs.lemmas.List.{append-nil}
use Rattle.std.proofs.lemmas.List.Elements.{All-head, All-tail}
use Rattle.std.proofs.lemmas.Slice.Eq.{bytes_eq-Decides}
use Rattle.zhtml.specs.declared.attributes.AttributeName.{AttributeName}
use Rattle.zhtml.specs.declared.elements.Element.{Element}
use Rattle.zhtml.specs.Markup.{Pair, attribute_text, tag, end_tag, void_element, styled}
use Rattle.zhtml.specs.Names.{element_name, attribute_name}
use Rattle.zhtml.specs.Reader.{Opening, opens, stands, opening_name, Token, octet, starts, ends, style, Mode, in_content, after_attribute, in_value, in_sheet, before, tokens_from, Open, left_open, whole, read}
use Rattle.zhtml.specs.Texts.{escaped_octet, escaped}
use Rattle.zhtml.specs.Trees.{Nodes, nothing, text_octet, element_of, void_of, style_of, print, HasSoundSheets}
use Rattle.zhtml.proofs.References.{from_less, from_greater, from_quote, from_apostrophe}
use Rattle.zhtml.proofs.NameTheory.{bare_read, space_read, end_read, name_read}

-- ---- octets of texts and of values

octet_read : (x : ℕ) (rest : List ℕ)
    → tokens_from (escaped_octet x ++ rest) in_content ≡ before (octet x) (tokens_from rest in_content)
unfolding tokens_from
octet_read x rest =
    let P : Option (List ℕ) → Type 0 = λ r. tokens_from (unwrap_or r (x ∷ []) ++ rest) in_content
    ≡ before (octet x) (tokens_from rest in_content) in
    cond_both (eqb x 0x26) (Some (codes "&amp;")) (from_less x) P (λ h. rw (eqb-true x 0x26 h) refl)
    (λ a. cond_both (eqb x 0x3C) (Some (codes "&lt;")) (from_greater x) P (λ h. rw (eqb-true x 0x3C h) refl)
    (λ b. cond_both (eqb x 0x3E) (Some (codes "&gt;")) (from_quote x) P (λ h. rw (eqb-true x 0x3E h) refl)
    (λ _. cond_both (eqb x 0x22) (Some (codes "&quot;")) (from_apostrophe x) P (λ h. rw (eqb-true x 0x22 h) refl)
    (λ _. cond_both (eqb x 0x27) (Some (codes "&#39;")) None P (λ h. rw (eqb-true x 0x27 h) refl)
    (λ _. rw (a, b) refl)))))

value_octet_read : (o : Opening) (attributes : List Pair) (a : AttributeName) (octets : List ℕ) (x : ℕ) (rest : List ℕ)
    → tokens_from (escaped_octet x ++ rest) (in_value o attributes a octets)
    ≡ tokens_from rest (in_value o attributes a (octets ++ x ∷ []))
unfolding tokens_from
value_octet_read o attributes a octets x rest =
    let P : Option (List ℕ) → Type 0 = λ r. tokens_from (unwrap_or r (x ∷ []) ++ rest) (in_value o attributes a octets)
    ≡ tokens_from rest (in_value o attributes a (octets ++ x ∷ [])) in
    cond_both (eqb x 0x26) (Some (codes "&amp;")) (from_less x) P (λ h. rw (eqb-true x 0x26 h) refl)
    (λ amp. cond_both (eqb x 0x3C) (Some (codes "&lt;")) (from_greater x) P (λ h. rw (eqb-true x 0x3C h) refl)
    (λ _. cond_both (eqb x 0x3E) (Some (codes "&gt;")) (from_quote x) P (λ h. rw (eqb-true x 0x3E h) refl)
    (λ _. cond_both (eqb x 0x22) (Some (codes "&quot;")) (from_apostrophe x) P (λ h. rw (eqb-true x 0x22 h) refl)
    (λ quote. cond_both (eqb x 0x27) (Some (codes "&#39;")) None P (λ h. rw (eqb-true x 0x27 h) refl)
    (λ _. rw (quote, amp) refl)))))

value_read : (o : Opening) (attributes : List Pair) (a : AttributeName) (octets more rest : List ℕ)
    → tokens_from (escaped more ++ rest) (in_value o attributes a octets)
    ≡ tokens_from rest (in_value o attributes a (octets ++ more))
unfolding escaped
value_read o attributes a octets [] rest =
    ap (λ l. tokens_from rest (in_value o attributes a l)) (sym (append-nil octets))
value_read o attributes a octets (x ∷ more) rest =
    ap (λ l. tokens_from l (in_value o attributes a octets)) (append_assoc (escaped_octet x) (escaped more) rest)
    ∙ value_octet_read o attributes a octets x (escaped more ++ rest)
    ∙ value_read o attributes a (octets ++ x ∷ []) more rest
    ∙ ap (λ l. tokens_from rest (in_value o attributes a l)) (append_assoc octets (x ∷ []) more)

-- ---- tags

quote_read : (o : Opening) (attributes : List Pair) (a : AttributeName) (octets rest : List ℕ)
    → tokens_from (0x22 ∷ rest) (in_value o attributes a octets)
    ≡ tokens_from rest (after_attribute o (attributes ++ (a, octets) ∷ []))
unfolding tokens_from
quote_read o attributes a octets rest = refl

attribute_parts : (p : Pair) (rest : List ℕ)
    → attribute_text p ++ rest ≡ 0x20 ∷ (attribute_name p.0 ++ 0x3D ∷ 0x22 ∷ (escaped p.1 ++ 0x22 ∷ rest))
attribute_parts p rest = simp append_assoc

attribute_read : (o : Opening) (attributes : List Pair) (p : Pair) (rest : List ℕ)
    → tokens_from (attribute_text p ++ rest) (after_attribute o attributes)
    ≡ tokens_from rest (after_attribute o (attributes ++ p ∷ []))
attribute_read o attributes p rest =
    ap (λ l. tokens_from l (after_attribute o attributes)) (attribute_parts p rest)
    ∙ name_read p.0 o attributes (escaped p.1 ++ 0x22 ∷ rest)
    ∙ value_read o attributes p.0 [] p.1 (0x22 ∷ rest)
    ∙ quote_read o attributes p.0 p.1 rest

attributes_read : (o : Opening) (attributes more : List Pair) (rest : List ℕ)
    → tokens_from (flat_map attribute_text more ++ rest) (after_attribute o attributes)
    ≡ tokens_from rest (after_attribute o (attributes ++ more))
attributes_read o attributes [] rest =
    ap (λ l. tokens_from rest (after_attribute o l)) (sym (append-nil attributes))
attributes_read o attributes (p ∷ more) rest =
    ap (λ l. tokens_from l (after_attribute o attributes))
    (append_assoc (attribute_text p) (flat_map attribute_text more) rest)
    ∙ attribute_read o attributes p (flat_map attribute_text more ++ rest)
    ∙ attributes_read o (attributes ++ p ∷ []) more rest
    ∙ ap (λ l. tokens_from rest (after_attribute o l)) (append_assoc attributes (p ∷ []) more)

tag_parts : (name : List ℕ) (attributes : List Pair) (rest : List ℕ)
    → tag name attributes ++ rest ≡ 0x3C ∷ (name ++ (flat_map attribute_text attributes ++ 0x3E ∷ rest))
unfolding tag
tag_parts name attributes rest = simp append_assoc

close_read : (o : Opening) (attributes : List Pair) (rest : List ℕ)
    → tokens_from (0x3E ∷ rest) (after_attribute o attributes)
    ≡ before (starts o attributes) (tokens_from rest in_content)
unfolding tokens_from
close_read o attributes rest = refl

inside_read : (o : Opening) (attributes : List Pair) (rest : List ℕ)
    → tokens_from (0x3C ∷ (opening_name o ++ (flat_map attribute_text attributes ++ 0x3E ∷ rest))) in_content
    ≡ before (starts o attributes) (tokens_from rest in_content)
inside_read o [] rest = bare_read o rest
inside_read o (p ∷ more) rest =
    space_read o _ ∙ attributes_read o [] (p ∷ more) (0x3E ∷ rest) ∙ close_read o (p ∷ more) rest

tag_read : (o : Opening) (attributes : List Pair) (rest : List ℕ)
    → tokens_from (tag (opening_name o) attributes ++ rest) in_content
    ≡ before (starts o attributes) (tokens_from rest in_content)
tag_read o attributes rest =
    ap (λ l. tokens_from l in_content) (tag_parts (opening_name o) attributes rest) ∙ inside_read o attributes rest

-- ---- style sheets

sheet_octet_read : (octets : List ℕ) (x : ℕ) (rest : List ℕ) → x ≢ 0x3C
    → tokens_from (x ∷ rest) (in_sheet octets) ≡ tokens_from rest (in_sheet (octets ++ x ∷ []))
unfolding tokens_from
sheet_octet_read octets x rest h = rw (ne_eqb x 0x3C h) refl

sheet_read : (octets more rest : List ℕ) → All (λ x. x ≢ 0x3C) more
    → tokens_from (more ++ rest) (in_sheet octets) ≡ tokens_from rest (in_sheet (octets ++ more))
sheet_read octets [] rest h = ap (λ l. tokens_from rest (in_sheet l)) (sym (append-nil octets))
sheet_read octets (x ∷ more) rest h =
    sheet_octet_read octets x (more ++ rest) (All-head (λ y. y ≢ 0x3C) x more h)
    ∙ sheet_read (octets ++ x ∷ []) more rest (All-tail (λ y. y ≢ 0x3C) x more h)
    ∙ ap (λ l. tokens_from rest (in_sheet l)) (append_assoc octets (x ∷ []) more)

sheet_begun : (more : List ℕ) → tokens_from (codes "<style>" ++ more) in_content ≡ tokens_from more (in_sheet [])
unfolding tokens_from
sheet_begun more = refl

sheet_ended : (octets rest : List ℕ)
    → tokens_from (codes "</style>" ++ rest) (in_sheet octets) ≡ before (style octets) (tokens_from rest in_content)
unfolding tokens_from
sheet_ended octets rest = refl

style_parts : (octets rest : List ℕ)
    → styled octets ++ rest ≡ codes "<style>" ++ (octets ++ (codes "</style>" ++ rest))
style_parts octets rest = simp append_assoc

style_read : (octets rest : List ℕ) → All (λ x. x ≢ 0x3C) octets
    → tokens_from (styled octets ++ rest) in_content ≡ before (style octets) (tokens_from rest in_content)
style_read octets rest h =
    ap (λ l. tokens_from l in_content) (style_parts octets rest)
    ∙ sheet_begun (octets ++ (codes "</style>" ++ rest))
    ∙ sheet_read [] octets (codes "</style>" ++ rest) h
    ∙ sheet_ended octets rest

-- ---- the tokens of nodes

abbrev tokens_of : Nodes → List Token
tokens_of nothing = []
tokens_of (text_octet x rest) = octet x ∷ tokens_of rest
tokens_of (element_of e attributes inside rest) =
    starts (opens e) attributes ∷ (tokens_of inside ++ ends e ∷ tokens_of rest)
tokens_of (void_of v attributes rest) = starts (stands v) attributes ∷ tokens_of rest
tokens_of (style_of octets rest) = style octets ∷ tokens_of rest

abbrev then_tokens : List Token → Option (List Token) → Option (List Token)
then_tokens ts rest = option_map (λ more. ts ++ more) rest

before_then : (t : Token) (ts : List Token) (rest : Option (List Token))
    → before t (then_tokens ts rest) ≡ then_tokens (t ∷ ts) rest
before_then t ts None = refl
before_then t ts (Some more) = refl

then_then : (ts us : List Token) (rest : Option (List Token))
    → then_tokens ts (then_tokens us rest) ≡ then_tokens (ts ++ us) rest
then_then ts us None = refl
then_then ts us (Some more) = ap (λ l. Some l) (sym (append_assoc ts us more))

then_nothing : (rest : Option (List Token)) → rest ≡ then_tokens [] rest
then_nothing None = refl
then_nothing (Some more) = refl

nodes_read : (nodes : Nodes) (rest : List ℕ) → HasSoundSheets nodes
    → tokens_from (print nodes ++ rest) in_content ≡ then_tokens (tokens_of nodes) (tokens_from rest in_content)
nodes_read nothing rest h = then_nothing (tokens_from rest in_content)
nodes_read (text_octet x behind) rest h =
    ap (λ l. tokens_from l in_content) (append_assoc (escaped_octet x) (print behind) rest)
    ∙ octet_read x (print behind ++ rest)
    ∙ ap (before (octet x)) (nodes_read behind rest h)
    ∙ before_then (octet x) (tokens_of behind) (tokens_from rest in_content)
nodes_read (element_of e attributes inside behind) rest h =
    let begun = starts (opens e) attributes in
    let last = tokens_from rest in_content in
    ap (λ l. tokens_from l in_content) (simp append_assoc)
    ∙ tag_read (opens e) attributes (print inside ++ (end_tag e ++ (print behind ++ rest)))
    ∙ ap (before begun) (nodes_read inside (end_tag e ++ (print behind ++ rest)) h.0
    ∙ ap (then_tokens (tokens_of inside)) (end_read e (print behind ++ rest)
    ∙ ap (before (ends e)) (nodes_read behind rest h.1) ∙ before_then (ends e) (tokens_of behind) last)
    ∙ then_then (tokens_of inside) (ends e ∷ tokens_of behind) last)
    ∙ before_then begun (tokens_of inside ++ ends e ∷ tokens_of behind) last
nodes_read (void_of v attributes behind) rest h =
    let begun = starts (stands v) attributes in
    ap (λ l. tokens_from l in_content) (append_assoc (void_element v attributes) (print behind) rest)
    ∙ tag_read (stands v) attributes (print behind ++ rest)
    ∙ ap (before begun) (nodes_read behind rest h)
    ∙ before_then begun (tokens_of behind) (tokens_from rest in_content)
nodes_read (style_of octets behind) rest h =
    ap (λ l. tokens_from l in_content) (append_assoc (styled octets) (print behind) rest)
    ∙ style_read octets (print behind ++ rest) h.0
    ∙ ap (before (style octets)) (nodes_read behind rest h.1)
    ∙ before_then (style octets) (tokens_of behind) (tokens_from rest in_content)

-- ---- the tree of tokens

-- nodes with others behind them
abbrev pub followed : Nodes → Nodes → Nodes
followed nothing then = then
followed (text_octet x rest) then = text_octet x (followed rest then)
followed (element_of e attributes inside rest) then = element_of e attributes inside (followed rest then)
followed (void_of v attributes rest) then = void_of v attributes (followed rest then)
followed (style_of octets rest) then = style_of octets (followed rest then)

followed_nothing : (nodes : Nodes) → followed nodes nothing ≡ nodes
followed_nothing nothing = refl
followed_nothing (text_octet x rest) = ap (text_octet x) (followed_nothing rest)
followed_nothing (element_of e attributes inside rest) =
    ap (element_of e attributes inside) (followed_nothing rest)
followed_nothing (void_of v attributes rest) = ap (void_of v attributes) (followed_nothing rest)
followed_nothing (style_of octets rest) = ap (style_of octets) (followed_nothing rest)

same_name : (name : List ℕ) → bytes_eq name name ≡ true
same_name name = (bytes_eq-Decides name name).1 refl

nodes_open : (nodes : Nodes) (ts : List Token) (o : Open) → left_open ts ≡ Some o
    → left_open (tokens_of nodes ++ ts) ≡ Some (followed nodes o.0, o.1)
unfolding left_open
nodes_open nothing ts o h = h
nodes_open (text_octet x rest) ts o h = rw (nodes_open rest ts o h) refl
nodes_open (element_of e attributes inside rest) ts o h =
    let behind : left_open (ends e ∷ (tokens_of rest ++ ts)) ≡ Some (nothing, (e, followed rest o.0) ∷ o.1) =
    rw (nodes_open rest ts o h) refl in
    let within = nodes_open inside (ends e ∷ (tokens_of rest ++ ts)) (nothing, (e, followed rest o.0) ∷ o.1) behind in
    rw (append_assoc (tokens_of inside) (ends e ∷ tokens_of rest) ts, within, followed_nothing inside, same_name (element_name e)) refl
nodes_open (void_of v attributes rest) ts o h = rw (nodes_open rest ts o h) refl
nodes_open (style_of octets rest) ts o h = rw (nodes_open rest ts o h) refl

tokens_read : (nodes : Nodes) → HasSoundSheets nodes
    → tokens_from (print nodes) in_content ≡ Some (tokens_of nodes ++ [])
unfolding tokens_from
tokens_read nodes h = ap (λ l. tokens_from l in_content) (sym (append-nil (print nodes))) ∙ nodes_read nodes [] h

tree_read : (nodes : Nodes) → left_open (tokens_of nodes ++ []) ≡ Some (nodes, [])
unfolding left_open
tree_read nodes =
    nodes_open nodes [] (nothing, []) refl ∙ ap (λ n. Some (n, [])) (followed_nothing nodes)

pub text_reads_back : (nodes : Nodes) → HasSoundSheets nodes → read (print nodes) ≡ Some nodes
text_reads_back nodes h = rw (tokens_read nodes h, tree_read nodes) refl
