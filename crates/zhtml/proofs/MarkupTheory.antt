-- What is made of the parts of the small HTML is the text of nodes.
use Rattle.std.proofs.Common.{◌≡◌, ℕ, List, [], ◌∷◌, ◌++◌, refl, sym, ap, ◌∙◌, append_assoc}
use Rattle.std.specs.List.{flat_map}
use Rattle.std.proofs.lemmas.List.{append-nil}
use Rattle.zhtml.specs.declared.elements.Element.{Element}
use Rattle.zhtml.specs.declared.elements.VoidElement.{VoidElement}
use Rattle.zhtml.specs.Laws.{IsMarkup}
use Rattle.zhtml.specs.Markup.{Pair, end_tag, start_tag, element, void_element, sheet, styled, style_element}
use Rattle.zhtml.specs.Texts.{escaped_octet, escaped, visible, text}
use Rattle.zhtml.specs.Trees.{Nodes, nothing, text_octet, element_of, void_of, style_of, print, HasSoundSheets}
use Rattle.zhtml.proofs.ReadTheory.{followed}
use Rattle.zhtml.proofs.TextTheory.{sheet_is_sound}

pub print_followed : (a b : Nodes) → print (followed a b) ≡ print a ++ print b
print_followed nothing b = refl
print_followed (text_octet x rest) b =
    ap (λ l. escaped_octet x ++ l) (print_followed rest b) ∙ sym (append_assoc (escaped_octet x) (print rest) (print b))
print_followed (element_of e attributes inside rest) b =
    ap (λ l. element e attributes (print inside) ++ l) (print_followed rest b)
    ∙ sym (append_assoc (element e attributes (print inside)) (print rest) (print b))
print_followed (void_of v attributes rest) b =
    ap (λ l. void_element v attributes ++ l) (print_followed rest b)
    ∙ sym (append_assoc (void_element v attributes) (print rest) (print b))
print_followed (style_of octets rest) b =
    ap (λ l. styled octets ++ l) (print_followed rest b) ∙ sym (append_assoc (styled octets) (print rest) (print b))

pub sound_followed : (a b : Nodes) → HasSoundSheets a → HasSoundSheets b → HasSoundSheets (followed a b)
sound_followed nothing b h k = k
sound_followed (text_octet x rest) b h k = sound_followed rest b h k
sound_followed (element_of e attributes inside rest) b h k = (h.0, sound_followed rest b h.1 k)
sound_followed (void_of v attributes rest) b h k = sound_followed rest b h k
sound_followed (style_of octets rest) b h k = (h.0, sound_followed rest b h.1 k)

pub nothing_is_markup : IsMarkup []
nothing_is_markup = record { nodes = nothing; made = refl; sheets = tt }

pub append_is_markup : (a b : List ℕ) → IsMarkup a → IsMarkup b → IsMarkup (a ++ b)
append_is_markup a b first then = record {
  nodes = followed first.nodes then.nodes;
  made = print_followed first.nodes then.nodes ∙ ap (λ l. l ++ print then.nodes) first.made ∙ ap (λ l. a ++ l) then.made;
  sheets = sound_followed first.nodes then.nodes first.sheets then.sheets;
}

abbrev pub octets_of : List ℕ → Nodes
octets_of [] = nothing
octets_of (x ∷ octets) = text_octet x (octets_of octets)

pub print_octets : (octets : List ℕ) → print (octets_of octets) ≡ escaped octets
unfolding escaped
print_octets [] = refl
print_octets (x ∷ octets) = ap (λ l. escaped_octet x ++ l) (print_octets octets)

pub sound_octets : (octets : List ℕ) → HasSoundSheets (octets_of octets)
sound_octets [] = tt
sound_octets (x ∷ octets) = sound_octets octets

pub text_is_markup : (octets : List ℕ) → IsMarkup (text octets)
unfolding text
text_is_markup octets = record {
  nodes = octets_of (visible octets);
  made = print_octets (visible octets);
  sheets = sound_octets (visible octets);
}

pub element_is_markup : (e : Element) (attributes : List Pair) (content : List ℕ) → IsMarkup content
    → IsMarkup (element e attributes content)
element_is_markup e attributes content inside = record {
  nodes = element_of e attributes inside.nodes nothing;
  made = append-nil (element e attributes (print inside.nodes)) ∙ ap (element e attributes) inside.made;
  sheets = (inside.sheets, tt);
}

pub void_is_markup : (v : VoidElement) (attributes : List Pair) → IsMarkup (void_element v attributes)
void_is_markup v attributes = record {
  nodes = void_of v attributes nothing;
  made = append-nil (void_element v attributes);
  sheets = tt;
}

pub style_is_markup : (octets : List ℕ) → IsMarkup (style_element octets)
style_is_markup octets = record {
  nodes = style_of (sheet octets) nothing;
  made = append-nil (style_element octets);
  sheets = (sheet_is_sound octets, tt);
}
