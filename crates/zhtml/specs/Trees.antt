-- Nodes of a document, one behind the other, as a tree: octets of text, elements with the nodes in them, void elements,
-- style sheets. And their text.
use Rattle.std.specs.Prelude.{◌≢◌, ℕ, List, [], ◌++◌, All}
use Rattle.zhtml.specs.declared.elements.Element.{Element}
use Rattle.zhtml.specs.declared.elements.VoidElement.{VoidElement}
use Rattle.zhtml.specs.Texts.{escaped_octet}
use Rattle.zhtml.specs.Markup.{Pair, element, void_element, styled}

-- Nodes: none, or one and the nodes behind it. An attribute is its name and its value. The last argument of each is
-- what stands behind; an element has the nodes in it before that.
pub data Nodes : Type 0 where
  nothing : Nodes
  text_octet : ℕ → Nodes → Nodes
  element_of : Element → List Pair → Nodes → Nodes → Nodes
  void_of : VoidElement → List Pair → Nodes → Nodes
  style_of : List ℕ → Nodes → Nodes

-- the text of nodes
abbrev pub print : Nodes → List ℕ
print nothing = []
print (text_octet x rest) = escaped_octet x ++ print rest
print (element_of e attributes content rest) = element e attributes (print content) ++ print rest
print (void_of v attributes rest) = void_element v attributes ++ print rest
print (style_of octets rest) = styled octets ++ print rest

-- no style sheet has a `<`, hexadecimal 3C
abbrev pub HasSoundSheets : Nodes → Type 0
HasSoundSheets nothing = Unit {0}
HasSoundSheets (text_octet x rest) = HasSoundSheets rest
HasSoundSheets (element_of e attributes content rest) = HasSoundSheets content × HasSoundSheets rest
HasSoundSheets (void_of v attributes rest) = HasSoundSheets rest
HasSoundSheets (style_of octets rest) = All (λ x. x ≢ 0x3C) octets × HasSoundSheets rest
