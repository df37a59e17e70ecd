-- A reader of this small HTML, as the HTML Standard has it: the states of its tokenizer (13.2.5) that such a text
-- reaches, and the tree of its tokens (13.2.6). It reads octets in place of characters: all markup is ASCII, and no
-- octet of a longer character of UTF-8 is. What the small HTML does not have, it refuses.
use Rattle.std.specs.Prelude.{ℕ, ◌==◌, if◌then◌else◌, Option, Some, None, List, [], ◌∷◌, ◌++◌, codes, find}
use Rattle.std.specs.Option.{option_map, option_and_then}
use Rattle.std.specs.Str.{bytes_eq}
use Rattle.zhtml.specs.declared.attributes.AttributeName.{AttributeName}
use Rattle.zhtml.specs.declared.attributes.AttributeName.TheVariants.{Lang, Charset, HttpEquiv, Name, Content, Class}
use Rattle.zhtml.specs.declared.attributes.AttributeName.TheVariants.{Id, Scope, Rowspan, Colspan, Value, Max, Role}
use Rattle.zhtml.specs.declared.attributes.AttributeName.TheVariants.{Tabindex, AriaLabel, AriaLabelledby}
use Rattle.zhtml.specs.declared.elements.Element.{Element}
use Rattle.zhtml.specs.declared.elements.Element.TheVariants.{Html, Head, Title, Body, Header, Main, Footer, Section}
use Rattle.zhtml.specs.declared.elements.Element.TheVariants.{H1, H2, P, Div, Span, Strong, Table, Caption, Thead}
use Rattle.zhtml.specs.declared.elements.Element.TheVariants.{Tbody, Tr, Th, Td, Details, Summary, Ul, Li, Dl, Dt, Dd}
use Rattle.zhtml.specs.declared.elements.Element.TheVariants.{Meter}
use Rattle.zhtml.specs.declared.elements.VoidElement.{VoidElement}
use Rattle.zhtml.specs.declared.elements.VoidElement.TheVariants.{Meta, Br}
use Rattle.zhtml.specs.Markup.{Pair}
use Rattle.zhtml.specs.Names.{element_name, void_name, attribute_name}
use Rattle.zhtml.specs.Trees.{Nodes, nothing, text_octet, element_of, void_of, style_of}

-- ---- names

-- what a tag begins: an element, or a void element
pub data Opening : Type 0 where
  opens : Element → Opening
  stands : VoidElement → Opening

-- the name of a tag
abbrev pub opening_name : Opening → List ℕ
opening_name (opens e) = element_name e
opening_name (stands v) = void_name v

-- all of them
abbrev pub openings : List Opening
openings =
    opens Html ∷ opens Head ∷ opens Title ∷ opens Body ∷ opens Header ∷ opens Main ∷ opens Footer
    ∷ opens Section ∷ opens H1 ∷ opens H2 ∷ opens P ∷ opens Div ∷ opens Span ∷ opens Strong ∷ opens Table
    ∷ opens Caption ∷ opens Thead ∷ opens Tbody ∷ opens Tr ∷ opens Th ∷ opens Td ∷ opens Details ∷ opens Summary
    ∷ opens Ul ∷ opens Li ∷ opens Dl ∷ opens Dt ∷ opens Dd ∷ opens Meter ∷ stands Meta ∷ stands Br ∷ []

-- all names of attributes
abbrev pub attribute_names : List AttributeName
attribute_names =
    Lang ∷ Charset ∷ HttpEquiv ∷ Name ∷ Content ∷ Class ∷ Id ∷ Scope ∷ Rowspan ∷ Colspan ∷ Value ∷ Max ∷ Role
    ∷ Tabindex ∷ AriaLabel ∷ AriaLabelledby ∷ []

-- the one with this name
abbrev pub opening_named : List ℕ → Option Opening
opening_named name = find (λ o. bytes_eq (opening_name o) name) openings

-- the attribute with this name
abbrev pub attribute_named : List ℕ → Option AttributeName
attribute_named name = find (λ a. bytes_eq (attribute_name a) name) attribute_names

-- the octet that a character reference means, by what stands between `&` and `;`
abbrev pub meaning : List ℕ → Option ℕ
meaning name =
    if bytes_eq name (codes "amp") then Some 0x26
    else (if bytes_eq name (codes "lt") then Some 0x3C
    else (if bytes_eq name (codes "gt") then Some 0x3E
    else (if bytes_eq name (codes "quot") then Some 0x22
    else (if bytes_eq name (codes "#39") then Some 0x27 else None))))

-- ---- tokens

-- what the tokenizer finds: an octet of text, a start tag, an end tag, the element of a style sheet
pub data Token : Type 0 where
  octet : ℕ → Token
  starts : Opening → List Pair → Token
  ends : Element → Token
  style : List ℕ → Token

-- Where the tokenizer is: between tags; behind `&` there; behind `<`; behind an attribute or the name of a tag; in the
-- name of an attribute; before its value; in its value; behind `&` there; in a style sheet; behind `<` there; where it
-- refuses the text. Each has what was read of the tag.
pub data Mode : Type 0 where
  in_content : Mode
  in_reference : List ℕ → Mode
  in_tag : List ℕ → Mode
  after_attribute : Opening → List Pair → Mode
  in_name : Opening → List Pair → List ℕ → Mode
  before_value : Opening → List Pair → AttributeName → Mode
  in_value : Opening → List Pair → AttributeName → List ℕ → Mode
  in_value_reference : Opening → List Pair → AttributeName → List ℕ → List ℕ → Mode
  in_sheet : List ℕ → Mode
  in_sheet_tag : List ℕ → List ℕ → Mode
  refused : Mode

-- a step of the tokenizer: on to another place, maybe with a token
pub data Step : Type 0 where
  goes : Mode → Step
  emits : Token → Mode → Step

-- behind a character reference in a text
abbrev pub after_reference : Option ℕ → Step
after_reference None = goes refused
after_reference (Some x) = emits (octet x) in_content

-- behind a character reference in a value
abbrev pub after_value_reference : Opening → List Pair → AttributeName → List ℕ → Option ℕ → Step
after_value_reference o attributes a octets None = goes refused
after_value_reference o attributes a octets (Some x) = goes (in_value o attributes a (octets ++ x ∷ []))

-- behind the name of a tag and a space
abbrev pub after_space : Option Opening → Step
after_space None = goes refused
after_space (Some o) = goes (in_name o [] [])

-- behind a start tag without attributes
abbrev pub after_start : Option Opening → Step
after_start None = goes refused
after_start (Some o) = emits (starts o []) in_content

-- behind an end tag: a void element has none
abbrev pub after_end : Option Opening → Step
after_end None = goes refused
after_end (Some (opens e)) = emits (ends e) in_content
after_end (Some (stands v)) = goes refused

-- behind a tag without attributes: an end tag begins with a slash
abbrev pub after_tag : List ℕ → Step
after_tag [] = goes refused
after_tag (x ∷ name) =
    if x == 0x2F then after_end (opening_named name)
    else (if bytes_eq (x ∷ name) (codes "style") then goes (in_sheet []) else after_start (opening_named (x ∷ name)))

-- behind the name of an attribute
abbrev pub after_name : Opening → List Pair → Option AttributeName → Step
after_name o attributes None = goes refused
after_name o attributes (Some a) = goes (before_value o attributes a)

-- one octet more
abbrev pub step : Mode → ℕ → Step
step in_content c =
    if c == 0x26 then goes (in_reference [])
    else (if c == 0x3C then goes (in_tag []) else emits (octet c) in_content)
step (in_reference read) c = if c == 0x3B then after_reference (meaning read) else goes (in_reference (read ++ c ∷ []))
step (in_tag read) c =
    if c == 0x3E then after_tag read
    else (if c == 0x20 then after_space (opening_named read) else goes (in_tag (read ++ c ∷ [])))
step (after_attribute o attributes) c =
    if c == 0x3E then emits (starts o attributes) in_content
    else (if c == 0x20 then goes (in_name o attributes []) else goes refused)
step (in_name o attributes read) c =
    if c == 0x3D then after_name o attributes (attribute_named read) else goes (in_name o attributes (read ++ c ∷ []))
step (before_value o attributes a) c = if c == 0x22 then goes (in_value o attributes a []) else goes refused
step (in_value o attributes a octets) c =
    if c == 0x22 then goes (after_attribute o (attributes ++ (a, octets) ∷ []))
    else (if c == 0x26 then goes (in_value_reference o attributes a octets [])
    else goes (in_value o attributes a (octets ++ c ∷ [])))
step (in_value_reference o attributes a octets read) c =
    if c == 0x3B then after_value_reference o attributes a octets (meaning read)
    else goes (in_value_reference o attributes a octets (read ++ c ∷ []))
step (in_sheet octets) c = if c == 0x3C then goes (in_sheet_tag octets []) else goes (in_sheet (octets ++ c ∷ []))
step (in_sheet_tag octets read) c =
    if c == 0x3E then (if bytes_eq read (codes "/style") then emits (style octets) in_content else goes refused)
    else goes (in_sheet_tag octets (read ++ c ∷ []))
step refused c = goes refused

-- a token before those that the rest has, if it is not refused
abbrev pub before : Token → Option (List Token) → Option (List Token)
before t rest = option_map (λ ts. t ∷ ts) rest

-- what a step and the rest give
abbrev pub after_step : (Mode → Option (List Token)) → Step → Option (List Token)
after_step rest (goes m) = rest m
after_step rest (emits t m) = before t (rest m)

-- a text ends between tags
abbrev pub at_end : Mode → Option (List Token)
at_end in_content = Some []
at_end _ = None

-- the tokens of octets, from a place on
unfoldable pub tokens_from : List ℕ → Mode → Option (List Token)
tokens_from [] m = at_end m
tokens_from (c ∷ octets) m = after_step (tokens_from octets) (step m c)

-- ---- the tree

-- What tokens leave open, read from the last to the first: the nodes so far, and for each end tag whose start tag is
-- not reached yet, from the innermost on, its element and the nodes behind it.
abbrev pub Open : Type 0
Open = Nodes × List (Element × Nodes)

-- a start tag closes the innermost element, if that has the tag's name
abbrev pub closed : Element → List Pair → Nodes → List (Element × Nodes) → Option Open
closed e attributes content [] = None
closed e attributes content (o ∷ outer) =
    if bytes_eq (element_name e) (element_name o.0) then Some (element_of e attributes content o.1, outer) else None

-- one token more
abbrev pub with_token : Token → Open → Option Open
with_token (octet x) o = Some (text_octet x o.0, o.1)
with_token (starts (opens e) attributes) o = closed e attributes o.0 o.1
with_token (starts (stands v) attributes) o = Some (void_of v attributes o.0, o.1)
with_token (ends e) o = Some (nothing, (e, o.0) ∷ o.1)
with_token (style octets) o = Some (style_of octets o.0, o.1)

-- what tokens leave open
unfoldable pub left_open : List Token → Option Open
left_open [] = Some (nothing, [])
left_open (t ∷ ts) = option_and_then (with_token t) (left_open ts)

-- the nodes, if nothing is left open
abbrev pub whole : Open → Option Nodes
whole (nodes, []) = Some nodes
whole (nodes, o ∷ outer) = None

-- the nodes of a text
abbrev pub read : List ℕ → Option Nodes
read octets = option_and_then (λ ts. option_and_then whole (left_open ts)) (tokens_from octets in_content)
