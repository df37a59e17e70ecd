-- Both pages are documents of the small HTML, whatever the heading, the names, the character sets, the stops and the
-- facts are; and read back they have each row once.
use Rattle.std.specs.Prelude.{◌≡◌, ℕ, Option, Some, List, ◌++◌}
use Rattle.zhtml.specs.Laws.{IsMarkup}
use Rattle.zhtml.specs.Markup.{doctype}
use Rattle.zhtml.specs.Reader.{read}
use Rattle.zhtml.specs.Tables.{RowText, rows_in}
use Rattle.zhtml.specs.Trees.{Nodes}
use Rattle.zknow.specs.declared.fact.Fact.{Fact}
use Rattle.zmarc.specs.declared.charset.Charset.{Charset}
use Rattle.zknow_stops.specs.declared.stop.Stop.{Stop}
use Rattle.zknow_titles.specs.Names.{shown_names}
use Rattle.zknow_html.specs.Page.{page, change_page}
use Rattle.zknow_html.specs.Rows.{row_texts, change_texts}

-- the text of nodes behind what a document begins with: read back, it is these nodes (`read_law` of `zhtml`)
pub record IsDocument (octets : List ℕ) : Type 0 where
  pub inside : List ℕ
  pub made : doctype ++ inside ≡ octets
  pub markup : IsMarkup inside

-- whatever the heading, the names, the character sets, the stops and the facts are
abbrev pub PageLaw : Type 0
PageLaw =
    (heading : List ℕ) (names : List (List ℕ)) (charsets : List (Option Charset)) (stops : List (Option Stop))
    (facts : List Fact)
    → IsDocument (page heading names charsets stops facts)

-- whatever the heading, the names and the facts are
abbrev pub ChangePageLaw : Type 0
ChangePageLaw =
    (heading : List ℕ) (earlier later : List (List ℕ)) (new changed gone : List Fact)
    → IsDocument (change_page heading earlier later new changed gone)

-- ---- rows

-- Behind what a document begins with stands what a reader of HTML reads as a tree. The rows in it that have a class,
-- wherever they stand, are these, in this order: none is lost, and none is there twice.
pub record HasRowTexts (octets : List ℕ) (rows : List RowText) : Type 0 where
  pub inside : List ℕ
  pub made : doctype ++ inside ≡ octets
  pub tree : Nodes
  pub read_back : read inside ≡ Some tree
  pub rows_are : rows_in tree ≡ rows

-- the rows of the page, whatever the heading, the names, the character sets, the stops and the facts are
abbrev pub RowsLaw : Type 0
RowsLaw =
    (heading : List ℕ) (names : List (List ℕ)) (charsets : List (Option Charset)) (stops : List (Option Stop))
    (facts : List Fact)
    → HasRowTexts (page heading names charsets stops facts) (row_texts (shown_names names) charsets stops facts)

-- the rows of the page of changes, whatever the heading, the names and the facts are
abbrev pub ChangeRowsLaw : Type 0
ChangeRowsLaw =
    (heading : List ℕ) (earlier later : List (List ℕ)) (new changed gone : List Fact)
    → HasRowTexts (change_page heading earlier later new changed gone)
    (change_texts (shown_names earlier) (shown_names later) new changed gone)
