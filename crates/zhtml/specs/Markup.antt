-- Tags and elements as octets (HTML Standard, 13.1).
use Rattle.std.specs.Prelude.{ℕ, not, ◌==◌, List, ◌++◌, codes, map, filter}
use Rattle.std.specs.List.{flat_map}
use Rattle.std.specs.Str.{chars, encode_utf8_all}
use Rattle.zhtml.specs.declared.attributes.Attribute.{Attribute}
use Rattle.zhtml.specs.declared.attributes.AttributeName.{AttributeName}
use Rattle.zhtml.specs.declared.elements.Element.{Element}
use Rattle.zhtml.specs.declared.elements.VoidElement.{VoidElement}
use Rattle.zhtml.specs.Names.{element_name, void_name, attribute_name}
use Rattle.zhtml.specs.Texts.{visible, escaped}

-- the name and the value of an attribute
abbrev pub Pair : Type 0
Pair = AttributeName × List ℕ

-- an attribute whose value is what is shown of octets
abbrev pub attribute_of : AttributeName → List ℕ → Pair
attribute_of name octets = (name, visible octets)

-- the attributes that a caller gives
abbrev pub given : List Attribute → List Pair
given attributes = map (λ a. attribute_of a.name a.value.now) attributes

-- an attribute in a tag: a space, its name, and its value between quotation marks
abbrev pub attribute_text : Pair → List ℕ
attribute_text a = codes " " ++ attribute_name a.0 ++ codes "=\"" ++ escaped a.1 ++ codes "\""

-- a tag with a name and attributes
unfoldable pub tag : List ℕ → List Pair → List ℕ
tag name attributes = codes "<" ++ name ++ flat_map attribute_text attributes ++ codes ">"

-- the start tag of an element
abbrev pub start_tag : Element → List Pair → List ℕ
start_tag e attributes = tag (element_name e) attributes

-- the end tag of an element
unfoldable pub end_tag : Element → List ℕ
end_tag e = codes "</" ++ element_name e ++ codes ">"

-- an element around its content
abbrev pub element : Element → List Pair → List ℕ → List ℕ
element e attributes content = start_tag e attributes ++ content ++ end_tag e

-- a void element
abbrev pub void_element : VoidElement → List Pair → List ℕ
void_element v attributes = tag (void_name v) attributes

-- a style sheet without `<`, which could end it
unfoldable pub sheet : List ℕ → List ℕ
sheet octets = encode_utf8_all (filter (λ c. not (c == 0x3C)) (chars octets))

-- an element with this style sheet
abbrev pub styled : List ℕ → List ℕ
styled octets = codes "<style>" ++ octets ++ codes "</style>"

-- the element of a style sheet
abbrev pub style_element : List ℕ → List ℕ
style_element octets = styled (sheet octets)

-- what a document begins with
abbrev pub doctype : List ℕ
doctype = codes "<!doctype html>"
