-- Cells of tables, and other elements that have a text alone. Each part of a table says what it is by its role too: a
-- style that shows cells one below the other would take that from it.
use Rattle.std.specs.Prelude.{ℕ, ◌==◌, Bool, if◌then◌else◌, List, [], ◌∷◌, ◌++◌, codes, length}
use Rattle.std.specs.List.{flat_map}
use Rattle.zhtml.specs.declared.attributes.AttributeName.{AttributeName}
use Rattle.zhtml.specs.declared.attributes.AttributeName.TheVariants.{Class, Role, Scope}
use Rattle.zhtml.specs.declared.elements.Element.{Element}
use Rattle.zhtml.specs.declared.elements.Element.TheVariants.{Table, Thead, Tbody, Tr, Th, Td, P, Ul, Li, Strong, Details, Summary}
use Rattle.zhtml.specs.Markup.{Pair, attribute_of, start_tag, end_tag, element}
use Rattle.zhtml.specs.Texts.{text}

-- ---- elements with a text

-- one attribute
abbrev pub only : AttributeName → List ℕ → List Pair
only name value = attribute_of name value ∷ []

-- an element with a text
unfoldable pub said : Element → List ℕ → List ℕ
said e octets = element e [] (text octets)

-- an element with one attribute and a text
unfoldable pub said_with : Element → AttributeName → List ℕ → List ℕ → List ℕ
said_with e name value octets = element e (only name value) (text octets)

-- a list of texts, nothing if there is none
abbrev pub listed : List (List ℕ) → List ℕ
listed texts = if length texts == 0 then [] else element Ul [] (flat_map (said Li) texts)

-- a text that is marked, nothing if it is empty
abbrev pub mark : List ℕ → List ℕ
mark octets = if length octets == 0 then [] else said Strong octets

-- ---- what differs

-- the class of what differs, before other attributes
abbrev pub class_if : Bool → List Pair
class_if other = if other then only Class (codes "other") else []

-- the title of texts that a reader opens, marked if they differ
unfoldable pub summary : Bool → List ℕ → List ℕ
summary other title = element Summary (class_if other) (text title)

-- a text and the line feed that ends it
unfoldable pub line : List ℕ → List ℕ
line octets = text octets ++ codes "\n"

-- lines that are seen if a reader opens them, nothing if there is none
abbrev pub hidden : Bool → List ℕ → List (List ℕ) → List ℕ
hidden other title texts =
    if length texts == 0 then []
    else element Details [] (summary other title ++ element P [] (flat_map line texts))

-- ---- headers (WAI-ARIA, 5.3.2)

-- the attributes of a header
abbrev pub header_of : List ℕ → List ℕ → List Pair
header_of scope role = attribute_of Scope scope ∷ attribute_of Role role ∷ []

-- the header of a column
unfoldable pub column : List ℕ → List ℕ
column octets = element Th (header_of (codes "col") (codes "columnheader")) (text octets)

-- the header of a row
unfoldable pub row_header : List ℕ → List ℕ
row_header octets = element Th (header_of (codes "row") (codes "rowheader")) (text octets)

-- ---- cells

-- a cell
abbrev pub cell : List ℕ → List ℕ
cell content = element Td (only Role (codes "cell")) content

-- a cell with a text
unfoldable pub text_cell : List ℕ → List ℕ
text_cell octets = cell (text octets)

-- a cell with a list of texts
unfoldable pub list_cell : List (List ℕ) → List ℕ
list_cell texts = cell (listed texts)

-- a cell, marked if what it shows differs
abbrev pub compared_cell : Bool → List ℕ → List ℕ
compared_cell other content = element Td (class_if other ++ only Role (codes "cell")) content

-- such a cell with a text
unfoldable pub compared_text : Bool → List ℕ → List ℕ
compared_text other octets = compared_cell other (text octets)

-- such a cell with a list of texts
unfoldable pub compared_list : Bool → List (List ℕ) → List ℕ
compared_list other texts = compared_cell other (listed texts)

-- ---- rows and tables

-- the attributes of a row of a class
abbrev pub row_of : List ℕ → List Pair
row_of class = attribute_of Class class ∷ attribute_of Role (codes "row") ∷ []

-- a row of a class
abbrev pub row : List ℕ → List ℕ → List ℕ
row class cells = element Tr (row_of class) cells

-- what a table begins with: before the headers of its columns
unfoldable pub table_start : List ℕ
table_start =
    start_tag Table (only Role (codes "table")) ++ start_tag Thead (only Role (codes "rowgroup"))
    ++ start_tag Tr (only Role (codes "row"))

-- what stands between these headers and its rows
unfoldable pub body_start : List ℕ
body_start = end_tag Tr ++ end_tag Thead ++ start_tag Tbody (only Role (codes "rowgroup"))

-- what stands between two blocks of its rows
unfoldable pub block_end : List ℕ
block_end = end_tag Tbody ++ start_tag Tbody (only Role (codes "rowgroup"))

-- what it ends with
unfoldable pub table_end : List ℕ
table_end = end_tag Tbody ++ end_tag Table

-- a table: the headers of its columns, and its rows
unfoldable pub table : List ℕ → List ℕ → List ℕ
table columns rows = table_start ++ columns ++ body_start ++ rows ++ table_end
