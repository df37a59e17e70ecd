-- The names of elements and attributes, as tags have them (HTML Standard, 4; WAI-ARIA, 6).
use Rattle.std.specs.Prelude.{ℕ, List, codes}
use Rattle.zhtml.specs.declared.attributes.AttributeName.{AttributeName}
use Rattle.zhtml.specs.declared.attributes.AttributeName.TheVariants.{Lang, Charset, HttpEquiv, Name, Content, Class}
use Rattle.zhtml.specs.declared.attributes.AttributeName.TheVariants.{Id, Scope, Rowspan, Colspan, Value, Max, Role}
use Rattle.zhtml.specs.declared.attributes.AttributeName.TheVariants.{Tabindex, AriaLabel, AriaLabelledby}
use Rattle.zhtml.specs.declared.elements.Element.{Element}
use Rattle.zhtml.specs.declared.elements.Element.TheVariants.{Html, Head, Title, Body, Header, Main, Footer, Section}
use Rattle.zhtml.specs.declared.elements.Element.TheVariants.{H1, H2, P, Div, Span, Strong, Table, Caption, Thead}
use Rattle.zhtml.specs.declared.elements.Element.TheVariants.{Tbody, Tr, Th, Td, Details, Summary, Ul, Li, Dl, Dt, Dd}
use Rattle.zhtml.specs.declared.elements.Element.TheVariants.{Meter}
use Rattle.zhtml.specs.declared.elements.VoidElement.{VoidElement}
use Rattle.zhtml.specs.declared.elements.VoidElement.TheVariants.{Meta, Br}

-- the name of an element
abbrev pub element_name : Element → List ℕ
element_name Html = codes "html"
element_name Head = codes "head"
element_name Title = codes "title"
element_name Body = codes "body"
element_name Header = codes "header"
element_name Main = codes "main"
element_name Footer = codes "footer"
element_name Section = codes "section"
element_name H1 = codes "h1"
element_name H2 = codes "h2"
element_name P = codes "p"
element_name Div = codes "div"
element_name Span = codes "span"
element_name Strong = codes "strong"
element_name Table = codes "table"
element_name Caption = codes "caption"
element_name Thead = codes "thead"
element_name Tbody = codes "tbody"
element_name Tr = codes "tr"
element_name Th = codes "th"
element_name Td = codes "td"
element_name Details = codes "details"
element_name Summary = codes "summary"
element_name Ul = codes "ul"
element_name Li = codes "li"
element_name Dl = codes "dl"
element_name Dt = codes "dt"
element_name Dd = codes "dd"
element_name Meter = codes "meter"

-- the name of a void element
abbrev pub void_name : VoidElement → List ℕ
void_name Meta = codes "meta"
void_name Br = codes "br"

-- the name of an attribute
abbrev pub attribute_name : AttributeName → List ℕ
attribute_name Lang = codes "lang"
attribute_name Charset = codes "charset"
attribute_name HttpEquiv = codes "http-equiv"
attribute_name Name = codes "name"
attribute_name Content = codes "content"
attribute_name Class = codes "class"
attribute_name Id = codes "id"
attribute_name Scope = codes "scope"
attribute_name Rowspan = codes "rowspan"
attribute_name Colspan = codes "colspan"
attribute_name Value = codes "value"
attribute_name Max = codes "max"
attribute_name Role = codes "role"
attribute_name Tabindex = codes "tabindex"
attribute_name AriaLabel = codes "aria-label"
attribute_name AriaLabelledby = codes "aria-labelledby"
