-- The page, as a function of its heading, the names, the character sets, the stops and the facts.
use Rattle.std.specs.Prelude.{ℕ, Option, List, [], ◌∷◌, ◌++◌, codes}
use Rattle.zknow.specs.declared.fact.Fact.{Fact}
use Rattle.zmarc.specs.declared.charset.Charset as sets
use Rattle.zknow_stops.specs.declared.stop.Stop.{Stop}
use Rattle.zknow_titles.specs.Names.{shown_names}
use Rattle.zknow_titles.specs.Titles.{sets_of, rows_of}
use Rattle.zhtml.specs.declared.attributes.AttributeName.TheVariants.{Lang, Charset, HttpEquiv, Name, Content, Class}
use Rattle.zhtml.specs.declared.attributes.AttributeName.TheVariants.{Id, Role, Tabindex, AriaLabelledby}
use Rattle.zhtml.specs.declared.elements.Element.TheVariants.{Html, Head, Title, Body, Main, Section, Div, H1, H2}
use Rattle.zhtml.specs.declared.elements.VoidElement.TheVariants.{Meta}
use Rattle.zhtml.specs.Markup.{Pair, attribute_of, start_tag, end_tag, element, void_element, style_element, doctype}
use Rattle.zknow_html.specs.declared.style.TheConstants.{STYLE, POLICY}
use Rattle.zknow_html.specs.Cells.{only, said, said_with}
use Rattle.zknow_html.specs.Catalogues.{catalogue_table}
use Rattle.zknow_html.specs.Records.{record_table}

-- ---- the head

-- the encoding
unfoldable pub encoding : List ℕ
encoding = void_element Meta (only Charset (codes "utf-8"))

-- a pixel is a pixel on a narrow screen too
unfoldable pub viewport : List ℕ
viewport =
    void_element Meta
    (attribute_of Name (codes "viewport") ∷ attribute_of Content (codes "width=device-width, initial-scale=1") ∷ [])

-- what the page may load and run (Content Security Policy Level 3)
unfoldable pub policy_element : List ℕ → List ℕ
policy_element policy =
    void_element Meta (attribute_of HttpEquiv (codes "Content-Security-Policy") ∷ attribute_of Content policy ∷ [])

-- all that a program is told
unfoldable pub metadata : List ℕ → List ℕ
metadata policy = encoding ++ viewport ++ policy_element policy

-- what is told of the page
unfoldable pub head : List ℕ → List ℕ → List ℕ → List ℕ
head policy style heading = element Head [] (metadata policy ++ said Title heading ++ style_element style)

-- ---- the body

-- the attributes of a part of the page that can be moved by itself, whose heading has this name
abbrev pub region : List ℕ → List Pair
region name =
    attribute_of Class (codes "region") ∷ attribute_of Role (codes "region") ∷ attribute_of AriaLabelledby name
    ∷ attribute_of Tabindex (codes "0") ∷ []

-- what a part of the page begins with: its heading, before its table
unfoldable pub section_start : List ℕ → List ℕ → List ℕ
section_start name heading = start_tag Section [] ++ said_with H2 Id name heading ++ start_tag Div (region name)

-- what it ends with
unfoldable pub section_end : List ℕ
section_end = end_tag Div ++ end_tag Section

-- a part of the page
unfoldable pub section : List ℕ → List ℕ → List ℕ → List ℕ
section name heading table = section_start name heading ++ table ++ section_end

-- the catalogues, by target and set, and those that stopped
abbrev pub catalogues_part : List (List ℕ) → List (Option Stop) → List Fact → List ℕ
catalogues_part shown stops facts =
    section (codes "catalogues") (codes "Catalogues") (catalogue_table shown stops facts (sets_of facts))

-- a part with records, by position, target and set
abbrev pub part_with : List ℕ → List ℕ → List (List ℕ) → List (Option sets.Charset) → List Fact → List ℕ
part_with name heading shown charsets facts = section name heading (record_table shown charsets facts (rows_of facts))

-- the records
abbrev pub records_part : List (List ℕ) → List (Option sets.Charset) → List Fact → List ℕ
records_part shown charsets facts = part_with (codes "records") (codes "Records") shown charsets facts

-- both
unfoldable pub tables : List (List ℕ) → List (Option sets.Charset) → List (Option Stop) → List Fact → List ℕ
tables shown charsets stops facts = catalogues_part shown stops facts ++ records_part shown charsets facts

-- what is shown
unfoldable pub body : List ℕ → List ℕ → List ℕ
body heading shown_tables = element Body [] (said H1 heading ++ element Main [] shown_tables)

-- the document's element
unfoldable pub document : List ℕ → List ℕ → List ℕ → List ℕ → List ℕ
document policy style heading shown_tables =
    element Html (only Lang (codes "en")) (head policy style heading ++ body heading shown_tables)

-- the page
unfoldable pub page
    : List ℕ → List (List ℕ) → List (Option sets.Charset) → List (Option Stop) → List Fact → List ℕ
page heading names charsets stops facts =
    doctype ++ document POLICY.now STYLE.now heading (tables (shown_names names) charsets stops facts)

-- ---- the page of changes

-- the records that are new and those that changed, with the names of the later file, and those that are gone, with the
-- names of the earlier one; no character set is known of them
unfoldable pub change_tables : List (List ℕ) → List (List ℕ) → List Fact → List Fact → List Fact → List ℕ
change_tables earlier later new changed gone =
    part_with (codes "new") (codes "New") later [] new ++ part_with (codes "changed") (codes "Changed") later [] changed
    ++ part_with (codes "gone") (codes "Gone") earlier [] gone

-- the page
unfoldable pub change_page
    : List ℕ → List (List ℕ) → List (List ℕ) → List Fact → List Fact → List Fact → List ℕ
change_page heading earlier later new changed gone =
    doctype ++ document POLICY.now STYLE.now heading
    (change_tables (shown_names earlier) (shown_names later) new changed gone)
