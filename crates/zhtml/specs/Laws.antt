-- The text of nodes, read back, is the nodes; and texts of strangers are visible characters.
use Rattle.std.specs.Prelude.{◌≡◌, ◌≢◌, ℕ, ◌≤◌, Some, List, [], ◌++◌, All}
use Rattle.std.specs.Char.{IsScalar}
use Rattle.std.specs.Str.{encode_utf8_all}
use Rattle.zhtml.specs.declared.elements.Element.{Element}
use Rattle.zhtml.specs.declared.elements.VoidElement.{VoidElement}
use Rattle.zhtml.specs.Markup.{Pair, element, void_element, style_element}
use Rattle.zhtml.specs.Reader.{read}
use Rattle.zhtml.specs.Texts.{visible, text}
use Rattle.zhtml.specs.Trees.{Nodes, print, HasSoundSheets}

-- The text of nodes, read back, is the nodes. So no octet of a text or of a value begins a tag, ends a value or begins
-- a character reference.
abbrev pub ReadLaw : Type 0
ReadLaw = (nodes : Nodes) → HasSoundSheets nodes → read (print nodes) ≡ Some nodes

-- the octets are the text of nodes
pub record IsMarkup (octets : List ℕ) : Type 0 where
  pub nodes : Nodes
  pub made : print nodes ≡ octets
  pub sheets : HasSoundSheets nodes

-- what is made of the parts of the small HTML is the text of nodes
pub record MarkupLaws : Type 0 where
  pub nothing : IsMarkup []
  pub joined : (a b : List ℕ) → IsMarkup a → IsMarkup b → IsMarkup (a ++ b)
  pub texts : (octets : List ℕ) → IsMarkup (text octets)
  pub elements : (e : Element) (attributes : List Pair) (content : List ℕ) → IsMarkup content
      → IsMarkup (element e attributes content)
  pub void_elements : (v : VoidElement) (attributes : List Pair) → IsMarkup (void_element v attributes)
  pub style_sheets : (octets : List ℕ) → IsMarkup (style_element octets)

-- ---- what is shown

-- a scalar value that is no control character and no separator, does not turn the direction of text, and is seen
pub record IsVisible (c : ℕ) : Type 0 where
  pub scalar_value : IsScalar c
  pub no_control : 0x20 ≤ c
  pub no_later_control : 0x7F ≤ c → c ≤ 0x9F → ⊥
  pub no_separator_or_embedding : 0x2028 ≤ c → c ≤ 0x202E → ⊥
  pub no_isolate : 0x2066 ≤ c → c ≤ 0x2069 → ⊥
  pub no_arabic_letter_mark : c ≢ 0x061C
  pub no_directional_mark : (c ≢ 0x200E) × (c ≢ 0x200F)
  pub no_zero_width_space : c ≢ 0x200B
  pub no_byte_order_mark : c ≢ 0xFEFF

-- the octets are UTF-8, of visible characters
pub record IsVisibleText (octets : List ℕ) : Type 0 where
  pub characters : List ℕ
  pub spelled : encode_utf8_all characters ≡ octets
  pub visible : All IsVisible characters

-- whatever the octets are
abbrev pub VisibleLaw : Type 0
VisibleLaw = (octets : List ℕ) → IsVisibleText (visible octets)
