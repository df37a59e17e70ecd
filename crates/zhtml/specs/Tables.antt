-- The rows of tables in a tree of nodes that have a class, and the text of each of their cells.
use Rattle.std.specs.Prelude.{ℕ, Option, Some, None, List, [], ◌∷◌, ◌++◌}
use Rattle.zhtml.specs.declared.attributes.AttributeName.TheVariants.{Class}
use Rattle.zhtml.specs.declared.elements.Element.{Element}
use Rattle.zhtml.specs.declared.elements.Element.TheVariants.{Tr}
use Rattle.zhtml.specs.Markup.{Pair}
use Rattle.zhtml.specs.Trees.{Nodes, nothing, text_octet, element_of, void_of, style_of}

-- a row: its class, and the text of each of its cells
abbrev pub RowText : Type 0
RowText = List ℕ × List (List ℕ)

-- the text of nodes, with that in their elements
abbrev pub text_of : Nodes → List ℕ
text_of nothing = []
text_of (text_octet x rest) = x ∷ text_of rest
text_of (element_of e attributes content rest) = text_of content ++ text_of rest
text_of (void_of v attributes rest) = text_of rest
text_of (style_of octets rest) = text_of rest

-- the text in each element
abbrev pub cells_of : Nodes → List (List ℕ)
cells_of nothing = []
cells_of (text_octet x rest) = cells_of rest
cells_of (element_of e attributes content rest) = text_of content ∷ cells_of rest
cells_of (void_of v attributes rest) = cells_of rest
cells_of (style_of octets rest) = cells_of rest

-- the class of a row, if a class is its first attribute
abbrev pub class_of : Element → List Pair → Option (List ℕ)
class_of Tr ((Class, value) ∷ attributes) = Some value
class_of e attributes = None

-- a row with a class and cells; of what is none the rows in it
abbrev pub row_or : Option (List ℕ) → List (List ℕ) → List RowText → List RowText
row_or None cells rows = rows
row_or (Some class) cells rows = (class, cells) ∷ []

-- the rows that have a class, wherever they stand, from the first node to the last
abbrev pub rows_in : Nodes → List RowText
rows_in nothing = []
rows_in (text_octet x rest) = rows_in rest
rows_in (element_of e attributes content rest) =
    row_or (class_of e attributes) (cells_of content) (rows_in content) ++ rows_in rest
rows_in (void_of v attributes rest) = rows_in rest
rows_in (style_of octets rest) = rows_in rest
