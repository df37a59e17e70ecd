-- Cells of tables have the texts that they are made of; and what is no row of a class has no such row in it.
use Rattle.std.proofs.Common.{◌≡◌, ℕ, Bool, true, false, cond, List, [], ◌∷◌, ◌++◌, length, eqb, Some, None, refl, ap, ◌∙◌, append_assoc}
use Rattle.std.proofs.Math.Dec.{eqb-suc-zero}
use Rattle.std.specs.Prelude.{codes}
use Rattle.std.specs.List.{flat_map}
use Rattle.std.specs.Str.{chars, is_utf8}
use Rattle.std.specs.Str.Lossy.{utf8_lossy, utf8_valid_len}
use lib.Utf8.{encode}
use Rattle.zhtml.specs.declared.attributes.AttributeName.{AttributeName}
use Rattle.zhtml.specs.declared.attributes.AttributeName.TheVariants.{Role}
use Rattle.zhtml.specs.declared.elements.Element.{Element}
use Rattle.zhtml.specs.declared.elements.Element.TheVariants.{Table, Thead, Tbody, Tr, Th, Td, P, Ul, Li, Strong, Details, Summary}
use Rattle.zhtml.specs.Markup.{element}
use Rattle.zhtml.specs.Tables.{RowText, class_of}
use Rattle.zhtml.specs.Texts.{visible}
use Rattle.zhtml.specs.Trees.{nothing, text_octet}
use Rattle.zhtml.proofs.TableTheory.{HasText, nothing_has_text, append_has_text, text_has_text, element_has_text, each_has_text, HasCells, element_has_cell, HasRows, append_has_rows, text_has_no_rows, element_has_rows, row_has_row}
use Rattle.zknow_html.specs.Cells.{only, said, said_with, listed, mark, class_if, summary, line, hidden, header_of, column, row_header, cell, text_cell, list_cell, compared_cell, compared_text, compared_list, row_of, row, table_start, body_start, block_end, table_end, table}
use Rattle.zknow_html.specs.Rows.{mark_text, line_text, hidden_text}

-- ---- classes

pub catalogue_is_visible : visible (codes "catalogue") ≡ codes "catalogue"
unfolding visible chars utf8_lossy utf8_valid_len is_utf8 encode
catalogue_is_visible = refl

pub stopped_is_visible : visible (codes "stopped") ≡ codes "stopped"
unfolding visible chars utf8_lossy utf8_valid_len is_utf8 encode
stopped_is_visible = refl

pub record_is_visible : visible (codes "record") ≡ codes "record"
unfolding visible chars utf8_lossy utf8_valid_len is_utf8 encode
record_is_visible = refl

pub differs_is_visible : visible (codes "differs") ≡ codes "differs"
unfolding visible chars utf8_lossy utf8_valid_len is_utf8 encode
differs_is_visible = refl

-- ---- texts

if_has_text : (b : Bool) (x y s t : List ℕ) → HasText x s → HasText y t → HasText (cond b x y) (cond b s t)
if_has_text true x y s t first then = first
if_has_text false x y s t first then = then

said_has_text : (e : Element) (octets : List ℕ) → HasText (said e octets) (visible octets)
unfolding said
said_has_text e octets = element_has_text e [] (text_has_text octets)

items_have_text : (texts : List (List ℕ)) → HasText (element Ul [] (flat_map (said Li) texts)) (flat_map visible texts)
items_have_text texts = element_has_text Ul [] (each_has_text (said Li) visible (said_has_text Li) texts)

same_text : {octets s t : List ℕ} → s ≡ t → HasText octets s → HasText octets t
same_text h it = record { nodes = it.nodes; made = it.made; sheets = it.sheets; same = it.same ∙ h }

-- no text is shown of no texts
listed_text : (texts : List (List ℕ)) → cond (eqb (length texts) 0) [] (flat_map visible texts) ≡ flat_map visible texts
listed_text [] = refl
listed_text (t ∷ texts) = ap (λ b. cond b [] (flat_map visible (t ∷ texts))) (eqb-suc-zero (length texts))

listed_has_text : (texts : List (List ℕ)) → HasText (listed texts) (flat_map visible texts)
listed_has_text texts =
    same_text (listed_text texts) (if_has_text (eqb (length texts) 0) [] _ [] (flat_map visible texts) nothing_has_text
    (items_have_text texts))

pub mark_has_text : (octets : List ℕ) → HasText (mark octets) (mark_text octets)
mark_has_text octets =
    if_has_text (eqb (length octets) 0) [] (said Strong octets) [] (visible octets) nothing_has_text
    (said_has_text Strong octets)

summary_has_text : (other : Bool) (title : List ℕ) → HasText (summary other title) (visible title)
unfolding summary
summary_has_text other title = element_has_text Summary (class_if other) (text_has_text title)

line_feed_has_text : HasText (codes "\n") (codes "\n")
line_feed_has_text = record { nodes = text_octet 0x0A nothing; made = refl; sheets = tt; same = refl }

line_has_text : (octets : List ℕ) → HasText (line octets) (line_text octets)
unfolding line
line_has_text octets = append_has_text (text_has_text octets) line_feed_has_text

lines_have_text : (texts : List (List ℕ)) → HasText (element P [] (flat_map line texts)) (flat_map line_text texts)
lines_have_text texts = element_has_text P [] (each_has_text line line_text line_has_text texts)

pub hidden_has_text : (other : Bool) (title : List ℕ) (texts : List (List ℕ))
    → HasText (hidden other title texts) (hidden_text title texts)
hidden_has_text other title texts =
    if_has_text (eqb (length texts) 0) [] _ [] (visible title ++ flat_map line_text texts) nothing_has_text
    (element_has_text Details [] (append_has_text (summary_has_text other title) (lines_have_text texts)))

-- ---- cells

pub cell_has_cell : {content t : List ℕ} → HasText content t → HasCells (cell content) (t ∷ [])
cell_has_cell inside = element_has_cell Td (only Role (codes "cell")) inside

pub text_has_cell : (octets : List ℕ) → HasCells (text_cell octets) (visible octets ∷ [])
unfolding text_cell
text_has_cell octets = cell_has_cell (text_has_text octets)

pub list_has_cell : (texts : List (List ℕ)) → HasCells (list_cell texts) (flat_map visible texts ∷ [])
unfolding list_cell
list_has_cell texts = cell_has_cell (listed_has_text texts)

-- a mark is no text
pub compared_has_cell : (other : Bool) {content t : List ℕ} → HasText content t
    → HasCells (compared_cell other content) (t ∷ [])
compared_has_cell other inside = element_has_cell Td (class_if other ++ only Role (codes "cell")) inside

pub compared_text_has_cell : (other : Bool) (octets : List ℕ)
    → HasCells (compared_text other octets) (visible octets ∷ [])
unfolding compared_text
compared_text_has_cell other octets = compared_has_cell other (text_has_text octets)

pub compared_list_has_cell : (other : Bool) (texts : List (List ℕ))
    → HasCells (compared_list other texts) (flat_map visible texts ∷ [])
unfolding compared_list
compared_list_has_cell other texts = compared_has_cell other (listed_has_text texts)

pub row_header_has_cell : (octets : List ℕ) → HasCells (row_header octets) (visible octets ∷ [])
unfolding row_header
row_header_has_cell octets = element_has_cell Th (header_of (codes "row") (codes "rowheader")) (text_has_text octets)

-- ---- rows

pub row_has : (class : List ℕ) {cells : List ℕ} {texts : List (List ℕ)} → visible class ≡ class → HasCells cells texts
    → HasRows (row class cells) ((class, texts) ∷ [])
row_has class same inside = row_has_row Tr (row_of class) class (ap Some same) inside

-- ---- what has no rows

pub said_has_no_rows : (e : Element) (octets : List ℕ) → class_of e [] ≡ None → HasRows (said e octets) []
unfolding said
said_has_no_rows e octets other = element_has_rows e [] other (text_has_no_rows octets)

pub said_with_has_no_rows : (e : Element) (name : AttributeName) (value octets : List ℕ)
    → class_of e (only name value) ≡ None → HasRows (said_with e name value octets) []
unfolding said_with
said_with_has_no_rows e name value octets other = element_has_rows e (only name value) other (text_has_no_rows octets)

pub column_has_no_rows : (octets : List ℕ) → HasRows (column octets) []
unfolding column
column_has_no_rows octets =
    element_has_rows Th (header_of (codes "col") (codes "columnheader")) refl (text_has_no_rows octets)

-- ---- tables

table_parts : (columns rows : List ℕ)
    → table columns rows
    ≡ element Table (only Role (codes "table"))
    (element Thead (only Role (codes "rowgroup")) (element Tr (only Role (codes "row")) columns)
    ++ element Tbody (only Role (codes "rowgroup")) rows)
unfolding table table_start body_start table_end
table_parts columns rows = simp append_assoc

-- a block of rows
abbrev pub block : List ℕ → List ℕ
block rows = element Tbody (only Role (codes "rowgroup")) rows

pub block_has_rows : {rows : List ℕ} {texts : List RowText} → HasRows rows texts → HasRows (block rows) texts
block_has_rows inside = element_has_rows Tbody (only Role (codes "rowgroup")) refl inside

block_parts : (before here rest : List ℕ)
    → block (before ++ (block_end ++ here ++ rest)) ≡ block before ++ block (here ++ rest)
unfolding block_end
block_parts before here rest = simp append_assoc

-- what has its rows behind any rows
abbrev pub HasOthers : List ℕ → List RowText → Type 0
HasOthers rest more =
    (rows : List ℕ) (texts : List RowText) → HasRows rows texts → HasRows (block (rows ++ rest)) (texts ++ more)

in_next_block : (before here rest : List ℕ) (s t more : List RowText) → HasRows before s → HasRows here t
    → HasOthers rest more → HasRows (block (before ++ (block_end ++ here ++ rest))) (s ++ (t ++ more))
in_next_block before here rest s t more first one others =
    rw (block_parts before here rest) (append_has_rows (block_has_rows first) (others here t one))

in_same_block : (before here rest : List ℕ) (s t more : List RowText) → HasRows before s → HasRows here t
    → HasOthers rest more → HasRows (block (before ++ (here ++ rest))) (s ++ (t ++ more))
in_same_block before here rest s t more first one others =
    let joined = others (before ++ here) (s ++ t) (append_has_rows first one) in
    rw (append_assoc before here rest, append_assoc s t more) at joined

-- rows that follow others have theirs, whether a block begins between them or not
pub rows_follow : (begins : Bool) (before here rest : List ℕ) (s t more : List RowText) → HasRows before s
    → HasRows here t → HasOthers rest more
    → HasRows (block (before ++ (cond begins block_end [] ++ here ++ rest))) (s ++ (t ++ more))
rows_follow true before here rest s t more first one others = in_next_block before here rest s t more first one others
rows_follow false before here rest s t more first one others = in_same_block before here rest s t more first one others

pub table_has_rows : (columns rows : List ℕ) (texts : List RowText) → HasRows columns [] → HasRows (block rows) texts
    → HasRows (table columns rows) texts
table_has_rows columns rows texts heads inside =
    rw (table_parts columns rows) (element_has_rows Table (only Role (codes "table")) refl (append_has_rows
    (element_has_rows Thead (only Role (codes "rowgroup")) refl
    (element_has_rows Tr (only Role (codes "row")) refl heads)) inside))
