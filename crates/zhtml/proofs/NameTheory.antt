-- Names, read back: the name of each tag and of each attribute is that of no other.
use Rattle.std.proofs.Common.{◌≡◌, ℕ, List, [], ◌∷◌, ◌++◌, Option, refl}
use Rattle.zhtml.specs.declared.attributes.AttributeName.{AttributeName}
use Rattle.zhtml.specs.declared.attributes.AttributeName.TheVariants.{Lang, Charset, HttpEquiv, Name, Content, Class}
use Rattle.zhtml.specs.declared.attributes.AttributeName.TheVariants.{Id, Scope, Rowspan, Colspan, Value, Max, Role}
use Rattle.zhtml.specs.declared.attributes.AttributeName.TheVariants.{Tabindex, AriaLabel, AriaLabelledby}
use Rattle.zhtml.specs.declared.elements.Element.{Element}
use Rattle.zhtml.specs.declared.elements.Element.TheVariants.{Html, Head, Title, Body, Header, Main, Footer, Section}
use Rattle.zhtml.specs.declared.elements.Element.TheVariants.{H1, H2, P, Div, Span, Strong, Table, Caption, Thead}
use Rattle.zhtml.specs.declared.elements.Element.TheVariants.{Tbody, Tr, Th, Td, Details, Summary, Ul, Li, Dl, Dt, Dd}
use Rattle.zhtml.specs.declared.elements.Element.TheVariants.{Meter}
use Rattle.zhtml.specs.declared.elements.VoidElement.{VoidElement}
use Rattle.zhtml.specs.declared.elements.VoidElement.TheVariants.{Meta, Br}
use Rattle.zhtml.specs.Markup.{Pair, end_tag}
use Rattle.zhtml.specs.Names.{element_name, attribute_name}
use Rattle.zhtml.specs.Reader.{Opening, opens, stands, opening_name, Token, starts, ends, in_content, after_attribute, in_value, before, tokens_from}

-- a start tag without attributes
pub bare_read : (o : Opening) (rest : List ℕ)
    → tokens_from (0x3C ∷ (opening_name o ++ 0x3E ∷ rest)) in_content ≡ before (starts o []) (tokens_from rest in_content)
unfolding tokens_from
bare_read (opens Html) rest = refl
bare_read (opens Head) rest = refl
bare_read (opens Title) rest = refl
bare_read (opens Body) rest = refl
bare_read (opens Header) rest = refl
bare_read (opens Main) rest = refl
bare_read (opens Footer) rest = refl
bare_read (opens Section) rest = refl
bare_read (opens H1) rest = refl
bare_read (opens H2) rest = refl
bare_read (opens P) rest = refl
bare_read (opens Div) rest = refl
bare_read (opens Span) rest = refl
bare_read (opens Strong) rest = refl
bare_read (opens Table) rest = refl
bare_read (opens Caption) rest = refl
bare_read (opens Thead) rest = refl
bare_read (opens Tbody) rest = refl
bare_read (opens Tr) rest = refl
bare_read (opens Th) rest = refl
bare_read (opens Td) rest = refl
bare_read (opens Details) rest = refl
bare_read (opens Summary) rest = refl
bare_read (opens Ul) rest = refl
bare_read (opens Li) rest = refl
bare_read (opens Dl) rest = refl
bare_read (opens Dt) rest = refl
bare_read (opens Dd) rest = refl
bare_read (opens Meter) rest = refl
bare_read (stands Meta) rest = refl
bare_read (stands Br) rest = refl

-- the name of a tag, before a space
pub space_read : (o : Opening) (rest : List ℕ)
    → tokens_from (0x3C ∷ (opening_name o ++ 0x20 ∷ rest)) in_content ≡ tokens_from (0x20 ∷ rest) (after_attribute o [])
unfolding tokens_from
space_read (opens Html) rest = refl
space_read (opens Head) rest = refl
space_read (opens Title) rest = refl
space_read (opens Body) rest = refl
space_read (opens Header) rest = refl
space_read (opens Main) rest = refl
space_read (opens Footer) rest = refl
space_read (opens Section) rest = refl
space_read (opens H1) rest = refl
space_read (opens H2) rest = refl
space_read (opens P) rest = refl
space_read (opens Div) rest = refl
space_read (opens Span) rest = refl
space_read (opens Strong) rest = refl
space_read (opens Table) rest = refl
space_read (opens Caption) rest = refl
space_read (opens Thead) rest = refl
space_read (opens Tbody) rest = refl
space_read (opens Tr) rest = refl
space_read (opens Th) rest = refl
space_read (opens Td) rest = refl
space_read (opens Details) rest = refl
space_read (opens Summary) rest = refl
space_read (opens Ul) rest = refl
space_read (opens Li) rest = refl
space_read (opens Dl) rest = refl
space_read (opens Dt) rest = refl
space_read (opens Dd) rest = refl
space_read (opens Meter) rest = refl
space_read (stands Meta) rest = refl
space_read (stands Br) rest = refl

pub end_read : (e : Element) (rest : List ℕ)
    → tokens_from (end_tag e ++ rest) in_content ≡ before (ends e) (tokens_from rest in_content)
unfolding tokens_from end_tag
end_read Html rest = refl
end_read Head rest = refl
end_read Title rest = refl
end_read Body rest = refl
end_read Header rest = refl
end_read Main rest = refl
end_read Footer rest = refl
end_read Section rest = refl
end_read H1 rest = refl
end_read H2 rest = refl
end_read P rest = refl
end_read Div rest = refl
end_read Span rest = refl
end_read Strong rest = refl
end_read Table rest = refl
end_read Caption rest = refl
end_read Thead rest = refl
end_read Tbody rest = refl
end_read Tr rest = refl
end_read Th rest = refl
end_read Td rest = refl
end_read Details rest = refl
end_read Summary rest = refl
end_read Ul rest = refl
end_read Li rest = refl
end_read Dl rest = refl
end_read Dt rest = refl
end_read Dd rest = refl
end_read Meter rest = refl

-- a space, the name of an attribute, and what stands before its value
pub name_read : (a : AttributeName) (o : Opening) (attributes : List Pair) (rest : List ℕ)
    → tokens_from (0x20 ∷ (attribute_name a ++ 0x3D ∷ 0x22 ∷ rest)) (after_attribute o attributes)
    ≡ tokens_from rest (in_value o attributes a [])
unfolding tokens_from
name_read Lang o attributes rest = refl
name_read Charset o attributes rest = refl
name_read HttpEquiv o attributes rest = refl
name_read Name o attributes rest = refl
name_read Content o attributes rest = refl
name_read Class o attributes rest = refl
name_read Id o attributes rest = refl
name_read Scope o attributes rest = refl
name_read Rowspan o attributes rest = refl
name_read Colspan o attributes rest = refl
name_read Value o attributes rest = refl
name_read Max o attributes rest = refl
name_read Role o attributes rest = refl
name_read Tabindex o attributes rest = refl
name_read AriaLabel o attributes rest = refl
name_read AriaLabelledby o attributes rest = refl
