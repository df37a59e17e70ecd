-- The text, the cells and the rows of what is made of the parts of the small HTML.
use Rattle.std.proofs.Common.{◌≡◌, ℕ, List, [], ◌∷◌, ◌++◌, Option, Some, None, refl, sym, ap, ◌∙◌, append_assoc}
use Rattle.std.specs.List.{flat_map}
use Rattle.std.proofs.lemmas.List.{append-nil}
use Rattle.zhtml.specs.declared.elements.Element.{Element}
use Rattle.zhtml.specs.declared.elements.VoidElement.{VoidElement}
use Rattle.zhtml.specs.Laws.{IsMarkup}
use Rattle.zhtml.specs.Markup.{Pair, element, void_element, sheet, style_element}
use Rattle.zhtml.specs.Tables.{RowText, text_of, cells_of, class_of, row_or, rows_in}
use Rattle.zhtml.specs.Texts.{visible, text}
use Rattle.zhtml.specs.Trees.{Nodes, nothing, text_octet, element_of, void_of, style_of, print, HasSoundSheets}
use Rattle.zhtml.proofs.MarkupTheory.{print_followed, sound_followed, octets_of, print_octets, sound_octets}
use Rattle.zhtml.proofs.ReadTheory.{followed}
use Rattle.zhtml.proofs.TextTheory.{sheet_is_sound}

-- ---- nodes one behind the other

text_followed : (a b : Nodes) → text_of (followed a b) ≡ text_of a ++ text_of b
text_followed nothing b = refl
text_followed (text_octet x rest) b = ap (λ l. x ∷ l) (text_followed rest b)
text_followed (element_of e attributes inside rest) b =
    ap (λ l. text_of inside ++ l) (text_followed rest b) ∙ sym (append_assoc (text_of inside) (text_of rest) (text_of b))
text_followed (void_of v attributes rest) b = text_followed rest b
text_followed (style_of octets rest) b = text_followed rest b

cells_followed : (a b : Nodes) → cells_of (followed a b) ≡ cells_of a ++ cells_of b
cells_followed nothing b = refl
cells_followed (text_octet x rest) b = cells_followed rest b
cells_followed (element_of e attributes inside rest) b = ap (λ l. text_of inside ∷ l) (cells_followed rest b)
cells_followed (void_of v attributes rest) b = cells_followed rest b
cells_followed (style_of octets rest) b = cells_followed rest b

rows_followed : (a b : Nodes) → rows_in (followed a b) ≡ rows_in a ++ rows_in b
rows_followed nothing b = refl
rows_followed (text_octet x rest) b = rows_followed rest b
rows_followed (element_of e attributes inside rest) b =
    ap (λ l. row_or (class_of e attributes) (cells_of inside) (rows_in inside) ++ l) (rows_followed rest b)
    ∙ sym (append_assoc (row_or (class_of e attributes) (cells_of inside) (rows_in inside)) (rows_in rest) (rows_in b))
rows_followed (void_of v attributes rest) b = rows_followed rest b
rows_followed (style_of octets rest) b = rows_followed rest b

text_of_octets : (octets : List ℕ) → text_of (octets_of octets) ≡ octets
text_of_octets [] = refl
text_of_octets (x ∷ octets) = ap (λ l. x ∷ l) (text_of_octets octets)

rows_of_octets : (octets : List ℕ) → rows_in (octets_of octets) ≡ []
rows_of_octets [] = refl
rows_of_octets (x ∷ octets) = rows_of_octets octets

-- ---- texts

-- octets that are the text of nodes with this text
pub record HasText (octets shown : List ℕ) : Type 0 where
  pub nodes : Nodes
  pub made : print nodes ≡ octets
  pub sheets : HasSoundSheets nodes
  pub same : text_of nodes ≡ shown

pub nothing_has_text : HasText [] []
nothing_has_text = record { nodes = nothing; made = refl; sheets = tt; same = refl }

pub append_has_text : {a b s t : List ℕ} → HasText a s → HasText b t → HasText (a ++ b) (s ++ t)
append_has_text {a} {b} {s} {t} first then = record {
  nodes = followed first.nodes then.nodes;
  made = print_followed first.nodes then.nodes ∙ ap (λ l. l ++ print then.nodes) first.made ∙ ap (λ l. a ++ l) then.made;
  sheets = sound_followed first.nodes then.nodes first.sheets then.sheets;
  same = text_followed first.nodes then.nodes ∙ ap (λ l. l ++ text_of then.nodes) first.same ∙ ap (λ l. s ++ l) then.same;
}

pub text_has_text : (octets : List ℕ) → HasText (text octets) (visible octets)
unfolding text
text_has_text octets = record {
  nodes = octets_of (visible octets);
  made = print_octets (visible octets);
  sheets = sound_octets (visible octets);
  same = text_of_octets (visible octets);
}

pub element_has_text : (e : Element) (attributes : List Pair) {content t : List ℕ} → HasText content t
    → HasText (element e attributes content) t
element_has_text e attributes {content} {t} inside = record {
  nodes = element_of e attributes inside.nodes nothing;
  made = append-nil (element e attributes (print inside.nodes)) ∙ ap (element e attributes) inside.made;
  sheets = (inside.sheets, tt);
  same = append-nil (text_of inside.nodes) ∙ inside.same;
}

pub each_has_text : {X : Type 0} (f g : X → List ℕ) → ((x : X) → HasText (f x) (g x)) → (xs : List X)
    → HasText (flat_map f xs) (flat_map g xs)
each_has_text f g one [] = nothing_has_text
each_has_text f g one (x ∷ xs) = append_has_text (one x) (each_has_text f g one xs)

-- ---- cells

-- octets that are the text of nodes with these cells
pub record HasCells (octets : List ℕ) (cells : List (List ℕ)) : Type 0 where
  pub nodes : Nodes
  pub made : print nodes ≡ octets
  pub sheets : HasSoundSheets nodes
  pub same : cells_of nodes ≡ cells

pub append_has_cells : {a b : List ℕ} {s t : List (List ℕ)} → HasCells a s → HasCells b t → HasCells (a ++ b) (s ++ t)
append_has_cells {a} {b} {s} {t} first then = record {
  nodes = followed first.nodes then.nodes;
  made = print_followed first.nodes then.nodes ∙ ap (λ l. l ++ print then.nodes) first.made ∙ ap (λ l. a ++ l) then.made;
  sheets = sound_followed first.nodes then.nodes first.sheets then.sheets;
  same = cells_followed first.nodes then.nodes ∙ ap (λ l. l ++ cells_of then.nodes) first.same
      ∙ ap (λ l. s ++ l) then.same;
}

pub element_has_cell : (e : Element) (attributes : List Pair) {content t : List ℕ} → HasText content t
    → HasCells (element e attributes content) (t ∷ [])
element_has_cell e attributes {content} {t} inside = record {
  nodes = element_of e attributes inside.nodes nothing;
  made = append-nil (element e attributes (print inside.nodes)) ∙ ap (element e attributes) inside.made;
  sheets = (inside.sheets, tt);
  same = ap (λ l. l ∷ []) inside.same;
}

-- ---- rows

-- octets that are the text of nodes with these rows
pub record HasRows (octets : List ℕ) (rows : List RowText) : Type 0 where
  pub nodes : Nodes
  pub made : print nodes ≡ octets
  pub sheets : HasSoundSheets nodes
  pub same : rows_in nodes ≡ rows

pub nothing_has_rows : HasRows [] []
nothing_has_rows = record { nodes = nothing; made = refl; sheets = tt; same = refl }

pub append_has_rows : {a b : List ℕ} {s t : List RowText} → HasRows a s → HasRows b t → HasRows (a ++ b) (s ++ t)
append_has_rows {a} {b} {s} {t} first then = record {
  nodes = followed first.nodes then.nodes;
  made = print_followed first.nodes then.nodes ∙ ap (λ l. l ++ print then.nodes) first.made ∙ ap (λ l. a ++ l) then.made;
  sheets = sound_followed first.nodes then.nodes first.sheets then.sheets;
  same = rows_followed first.nodes then.nodes ∙ ap (λ l. l ++ rows_in then.nodes) first.same ∙ ap (λ l. s ++ l) then.same;
}

pub text_has_no_rows : (octets : List ℕ) → HasRows (text octets) []
unfolding text
text_has_no_rows octets = record {
  nodes = octets_of (visible octets);
  made = print_octets (visible octets);
  sheets = sound_octets (visible octets);
  same = rows_of_octets (visible octets);
}

row_or_none : (class : Option (List ℕ)) (cells : List (List ℕ)) (rows : List RowText) → class ≡ None
    → row_or class cells rows ≡ rows
row_or_none class cells rows h = ap (λ c. row_or c cells rows) h

row_or_some : (class : Option (List ℕ)) (name : List ℕ) (cells : List (List ℕ)) (rows : List RowText)
    → class ≡ Some name → row_or class cells rows ≡ (name, cells) ∷ []
row_or_some class name cells rows h = ap (λ c. row_or c cells rows) h

pub element_has_rows : (e : Element) (attributes : List Pair) {content : List ℕ} {rows : List RowText}
    → class_of e attributes ≡ None → HasRows content rows → HasRows (element e attributes content) rows
element_has_rows e attributes {content} {rows} other inside = record {
  nodes = element_of e attributes inside.nodes nothing;
  made = append-nil (element e attributes (print inside.nodes)) ∙ ap (element e attributes) inside.made;
  sheets = (inside.sheets, tt);
  same = append-nil (row_or (class_of e attributes) (cells_of inside.nodes) (rows_in inside.nodes))
      ∙ row_or_none (class_of e attributes) (cells_of inside.nodes) (rows_in inside.nodes) other ∙ inside.same;
}

pub row_has_row : (e : Element) (attributes : List Pair) (class : List ℕ) {content : List ℕ} {cells : List (List ℕ)}
    → class_of e attributes ≡ Some class → HasCells content cells
    → HasRows (element e attributes content) ((class, cells) ∷ [])
row_has_row e attributes class {content} {cells} one inside = record {
  nodes = element_of e attributes inside.nodes nothing;
  made = append-nil (element e attributes (print inside.nodes)) ∙ ap (element e attributes) inside.made;
  sheets = (inside.sheets, tt);
  same = append-nil (row_or (class_of e attributes) (cells_of inside.nodes) (rows_in inside.nodes))
      ∙ row_or_some (class_of e attributes) class (cells_of inside.nodes) (rows_in inside.nodes) one
      ∙ ap (λ l. (class, l) ∷ []) inside.same;
}

pub void_has_no_rows : (v : VoidElement) (attributes : List Pair) → HasRows (void_element v attributes) []
void_has_no_rows v attributes = record {
  nodes = void_of v attributes nothing;
  made = append-nil (void_element v attributes);
  sheets = tt;
  same = refl;
}

pub style_has_no_rows : (octets : List ℕ) → HasRows (style_element octets) []
style_has_no_rows octets = record {
  nodes = style_of (sheet octets) nothing;
  made = append-nil (style_element octets);
  sheets = (sheet_is_sound octets, tt);
  same = refl;
}

pub each_has_rows : {X : Type 0} (f : X → List ℕ) (g : X → List RowText) → ((x : X) → HasRows (f x) (g x))
    → (xs : List X) → HasRows (flat_map f xs) (flat_map g xs)
each_has_rows f g one [] = nothing_has_rows
each_has_rows f g one (x ∷ xs) = append_has_rows (one x) (each_has_rows f g one xs)

pub each_has_no_rows : {X : Type 0} (f : X → List ℕ) → ((x : X) → HasRows (f x) []) → (xs : List X)
    → HasRows (flat_map f xs) []
each_has_no_rows f one [] = nothing_has_rows
each_has_no_rows f one (x ∷ xs) = append_has_rows (one x) (each_has_no_rows f one xs)

pub rows_are_markup : {octets : List ℕ} {rows : List RowText} → HasRows octets rows → IsMarkup octets
rows_are_markup it = record { nodes = it.nodes; made = it.made; sheets = it.sheets }
