-- The pages are documents, whatever they are made of, and have the rows that are due.
use Rattle.std.proofs.Common.{◌≡◌, ℕ, List, [], ◌++◌, Option, refl, sym, ap, ◌∙◌, append_assoc}
use Rattle.std.specs.Prelude.{codes}
use Rattle.zhtml.specs.declared.attributes.AttributeName.TheVariants.{Lang, Id}
use Rattle.zhtml.specs.declared.elements.Element.TheVariants.{Html, Head, Title, Body, Main, Section, H1, H2, Div}
use Rattle.zhtml.specs.declared.elements.VoidElement.TheVariants.{Meta}
use Rattle.zhtml.specs.Markup.{doctype, element}
use Rattle.zhtml.specs.Reader.{read}
use Rattle.zhtml.specs.Tables.{RowText}
use Rattle.zhtml.proofs.ReadTheory.{text_reads_back}
use Rattle.zhtml.proofs.TableTheory.{HasRows, append_has_rows, element_has_rows, void_has_no_rows, style_has_no_rows, rows_are_markup}
use Rattle.zknow.specs.declared.fact.Fact.{Fact}
use Rattle.zmarc.specs.declared.charset.Charset.{Charset}
use Rattle.zknow_stops.specs.declared.stop.Stop.{Stop}
use Rattle.zknow_titles.specs.Names.{shown_names}
use Rattle.zknow_html.specs.declared.style.TheConstants.{STYLE, POLICY}
use Rattle.zknow_html.specs.Cells.{only, said_with}
use Rattle.zknow_html.specs.Laws.{IsDocument, HasRowTexts}
use Rattle.zknow_html.specs.Page.{encoding, viewport, policy_element, metadata, head, region, section_start, section_end, section, tables, body, document, page, change_tables, change_page}
use Rattle.zknow_html.specs.Rows.{row_texts, change_texts}
use Rattle.zknow_html.proofs.CellTheory.{said_has_no_rows, said_with_has_no_rows}
use Rattle.zknow_html.proofs.RowTheory.{catalogues_have_rows, records_table_has_rows}

metadata_has_no_rows : (policy : List ℕ) → HasRows (metadata policy) []
unfolding metadata encoding viewport policy_element
metadata_has_no_rows policy =
    append_has_rows (append_has_rows (void_has_no_rows Meta _) (void_has_no_rows Meta _)) (void_has_no_rows Meta _)

head_has_no_rows : (policy style heading : List ℕ) → HasRows (head policy style heading) []
unfolding head
head_has_no_rows policy style heading =
    element_has_rows Head [] refl (append_has_rows (append_has_rows (metadata_has_no_rows policy)
    (said_has_no_rows Title heading refl)) (style_has_no_rows style))

section_parts : (name heading table : List ℕ)
    → section name heading table
    ≡ element Section [] (said_with H2 Id name heading ++ element Div (region name) table)
unfolding section section_start section_end
section_parts name heading table = simp append_assoc

section_has_rows : (name heading table : List ℕ) (rows : List RowText) → HasRows table rows
    → HasRows (section name heading table) rows
section_has_rows name heading table rows inside =
    rw (section_parts name heading table) (element_has_rows Section [] refl
    (append_has_rows (said_with_has_no_rows H2 Id name heading refl) (element_has_rows Div (region name) refl inside)))

tables_have_rows : (shown : List (List ℕ)) (charsets : List (Option Charset)) (stops : List (Option Stop))
    (facts : List Fact)
    → HasRows (tables shown charsets stops facts) (row_texts shown charsets stops facts)
unfolding tables
tables_have_rows shown charsets stops facts =
    append_has_rows
    (section_has_rows (codes "catalogues") (codes "Catalogues") _ _ (catalogues_have_rows shown stops facts))
    (section_has_rows (codes "records") (codes "Records") _ _ (records_table_has_rows shown charsets facts))

body_has_rows : (heading inside : List ℕ) (rows : List RowText) → HasRows inside rows
    → HasRows (body heading inside) rows
unfolding body
body_has_rows heading inside rows h =
    element_has_rows Body [] refl
    (append_has_rows (said_has_no_rows H1 heading refl) (element_has_rows Main [] refl h))

document_has_rows : (policy style heading inside : List ℕ) (rows : List RowText) → HasRows inside rows
    → HasRows (document policy style heading inside) rows
unfolding document
document_has_rows policy style heading inside rows h =
    element_has_rows Html (only Lang (codes "en")) refl
    (append_has_rows (head_has_no_rows policy style heading) (body_has_rows heading inside rows h))

-- what stands behind what a document begins with
abbrev inner : List ℕ → List (List ℕ) → List (Option Charset) → List (Option Stop) → List Fact → List ℕ
inner heading names charsets stops facts =
    document POLICY.now STYLE.now heading (tables (shown_names names) charsets stops facts)

inner_has_rows : (heading : List ℕ) (names : List (List ℕ)) (charsets : List (Option Charset))
    (stops : List (Option Stop)) (facts : List Fact)
    → HasRows (inner heading names charsets stops facts) (row_texts (shown_names names) charsets stops facts)
inner_has_rows heading names charsets stops facts =
    document_has_rows POLICY.now STYLE.now heading _ _ (tables_have_rows (shown_names names) charsets stops facts)

pub page_is_document : (heading : List ℕ) (names : List (List ℕ)) (charsets : List (Option Charset))
    (stops : List (Option Stop)) (facts : List Fact)
    → IsDocument (page heading names charsets stops facts)
unfolding page
page_is_document heading names charsets stops facts = record {
  inside = inner heading names charsets stops facts;
  made = refl;
  markup = rows_are_markup (inner_has_rows heading names charsets stops facts);
}

rows_read_back : (octets inside : List ℕ) (rows : List RowText) → doctype ++ inside ≡ octets → HasRows inside rows
    → HasRowTexts octets rows
rows_read_back octets inside rows begun it = record {
  inside = inside;
  made = begun;
  tree = it.nodes;
  read_back = ap read (sym it.made) ∙ text_reads_back it.nodes it.sheets;
  rows_are = it.same;
}

pub page_has_rows : (heading : List ℕ) (names : List (List ℕ)) (charsets : List (Option Charset))
    (stops : List (Option Stop)) (facts : List Fact)
    → HasRowTexts (page heading names charsets stops facts) (row_texts (shown_names names) charsets stops facts)
unfolding page
page_has_rows heading names charsets stops facts =
    rows_read_back _ (inner heading names charsets stops facts) _ refl
    (inner_has_rows heading names charsets stops facts)

-- ---- the page of changes

change_tables_have_rows : (earlier later : List (List ℕ)) (new changed gone : List Fact)
    → HasRows (change_tables earlier later new changed gone) (change_texts earlier later new changed gone)
unfolding change_tables
change_tables_have_rows earlier later new changed gone =
    append_has_rows
    (append_has_rows (section_has_rows (codes "new") (codes "New") _ _ (records_table_has_rows later [] new))
    (section_has_rows (codes "changed") (codes "Changed") _ _ (records_table_has_rows later [] changed)))
    (section_has_rows (codes "gone") (codes "Gone") _ _ (records_table_has_rows earlier [] gone))

-- what stands behind what a document begins with
abbrev changes_inner : List ℕ → List (List ℕ) → List (List ℕ) → List Fact → List Fact → List Fact → List ℕ
changes_inner heading earlier later new changed gone =
    document POLICY.now STYLE.now heading
    (change_tables (shown_names earlier) (shown_names later) new changed gone)

changes_inner_has_rows : (heading : List ℕ) (earlier later : List (List ℕ)) (new changed gone : List Fact)
    → HasRows (changes_inner heading earlier later new changed gone)
    (change_texts (shown_names earlier) (shown_names later) new changed gone)
changes_inner_has_rows heading earlier later new changed gone =
    document_has_rows POLICY.now STYLE.now heading _ _
    (change_tables_have_rows (shown_names earlier) (shown_names later) new changed gone)

pub changes_are_document : (heading : List ℕ) (earlier later : List (List ℕ)) (new changed gone : List Fact)
    → IsDocument (change_page heading earlier later new changed gone)
unfolding change_page
changes_are_document heading earlier later new changed gone = record {
  inside = changes_inner heading earlier later new changed gone;
  made = refl;
  markup = rows_are_markup (changes_inner_has_rows heading earlier later new changed gone);
}

pub change_page_has_rows : (heading : List ℕ) (earlier later : List (List ℕ)) (new changed gone : List Fact)
    → HasRowTexts (change_page heading earlier later new changed gone)
    (change_texts (shown_names earlier) (shown_names later) new changed gone)
unfolding change_page
change_page_has_rows heading earlier later new changed gone =
    rows_read_back _ (changes_inner heading earlier later new changed gone) _ refl
    (changes_inner_has_rows heading earlier later new changed gone)
