-- The text of facts in a form, and what is told of them, as functions of the facts; and both by parts.
use Rattle.std.specs.Prelude.{◌≡◌, ◌↔◌, ◌⊎◌, ◌<ℤ◌, ℕ, List, [], ◌++◌, map, string_bytes, None, Contains, ⊤}
use Rattle.std.specs.Prelude.{String, Vec}
use Rattle.std.specs.declared.alloc.Global.{Global}
use Rattle.std.specs.BTreeMap.{BTreeMap}
use Rattle.zapdu.specs.declared.productions.record.Record.{Record}
use Rattle.zknow.specs.declared.fact.Fact.{Fact}
use Rattle.zknow.specs.declared.tables.keys.RowKey.{RowKey}
use Rattle.zknow.specs.declared.tables.keys.SetKey.{SetKey}
use Rattle.zknow.specs.Facts.{AreFacts}
use Rattle.zknow.specs.List.Listing.{listing, block_key_of, row_key_of}
use Rattle.zknow_json.specs.Lines.{json_lines}
use Rattle.zknow_records.specs.Parts.{HasRecord}
use Rattle.zknow_records.specs.Records.{records_octets, left_out}
use Rattle.zknow_records.specs.declared.left_out.LeftOut.{LeftOut}
use Rattle.zknow_titles.specs.Blocks.{filled_in, filled_at}
use Rattle.zknow_titles.specs.Parts.{title_top, title_rows}
use Rattle.zknow_titles.specs.Names.{shown_names}
use Rattle.zknow_titles.specs.Rows.{widths}
use Rattle.zknow_titles.specs.Titles.{rows_of, view}
use Rattle.zknow_titles.specs.declared.rows.Widths.{Widths}
use Rattle.zknow_titles.specs.declared.wholes.Extent.{Extent}
use Rattle.zknow_forms.specs.declared.form.Form.{Form}
use Rattle.zknow_forms.specs.declared.form.Form.TheVariants as forms
use Rattle.zknow_forms.specs.declared.tally.Tally.{Tally}

-- ---- one form

-- the text of facts; of the view the rows alone, and none if it is only measured
abbrev pub form_text : Form → List Fact → List ℕ
form_text (forms.Octets syntax conflicts) facts = records_octets syntax conflicts facts
form_text (forms.List names mode) facts = listing names mode facts
form_text (forms.Json names) facts = json_lines names [] [] facts
form_text (forms.Titles shown extent w filled) facts = title_rows extent w (map string_bytes shown.items) [] facts
form_text (forms.Measures shown) facts = []

-- the text that stands before that of records
abbrev pub head_text : Form → List Fact → List ℕ
head_text (forms.Octets syntax conflicts) facts = records_octets syntax conflicts facts
head_text (forms.List names mode) facts = listing names mode facts
head_text (forms.Json names) facts = json_lines names [] [] facts
head_text (forms.Titles shown extent w filled) facts =
    title_top w (filled_at filled.entries) (map string_bytes shown.items) [] facts
head_text (forms.Measures shown) facts = []

-- the whole text; the view in columns of these widths, with these numbers of positions at which a record is shown
abbrev pub whole_text : Form → List Fact → List ℕ
whole_text (forms.Octets syntax conflicts) facts = records_octets syntax conflicts facts
whole_text (forms.List names mode) facts = listing names mode facts
whole_text (forms.Json names) facts = json_lines names [] [] facts
whole_text (forms.Titles shown extent w filled) facts =
    title_top w (filled_at filled.entries) (map string_bytes shown.items) [] facts
    ++ title_rows extent w (map string_bytes shown.items) [] facts
whole_text (forms.Measures shown) facts = []

-- ---- what is told of facts beside their text

-- nothing was left out
abbrev pub none_left : LeftOut
none_left = record { conflicts = 0; syntaxes = 0; diagnostics = 0; others = 0 }

-- no columns
abbrev pub no_widths : Widths
no_widths = record { position = 0; name = 0 }

-- what is left out of the octets
abbrev pub form_left : Form → List Fact → LeftOut
form_left (forms.Octets syntax conflicts) facts = left_out syntax conflicts facts
form_left (forms.List names mode) facts = none_left
form_left (forms.Json names) facts = none_left
form_left (forms.Titles shown extent w filled) facts = none_left
form_left (forms.Measures shown) facts = none_left

-- the columns that the rows of the view need
abbrev pub form_widths : Form → List Fact → Widths
form_widths (forms.Octets syntax conflicts) facts = no_widths
form_widths (forms.List names mode) facts = no_widths
form_widths (forms.Json names) facts = no_widths
form_widths (forms.Titles shown extent w filled) facts = widths (map string_bytes shown.items) (rows_of facts)
form_widths (forms.Measures shown) facts = widths (map string_bytes shown.items) (rows_of facts)

-- at how many positions of a set a record is shown, in the view
abbrev pub form_filled : Form → List Fact → SetKey → ℕ
form_filled (forms.Octets syntax conflicts) facts b = 0
form_filled (forms.List names mode) facts b = 0
form_filled (forms.Json names) facts b = 0
form_filled (forms.Titles shown extent w filled) facts b = filled_in facts b
form_filled (forms.Measures shown) facts b = filled_in facts b

-- the tally tells of these facts
pub record IsTold (form : Form) (facts : List Fact) (tally : Tally) : Type 0 where
  pub left : tally.left ≡ form_left form facts
  pub columns : tally.widths ≡ form_widths form facts
  pub positions : (b : SetKey) → filled_at tally.filled.entries b ≡ form_filled form facts b

-- the columns of the view, and the numbers of its positions, are those that the tally tells
abbrev pub IsAsTold : Form → Tally → Type 0
IsAsTold (forms.Octets syntax conflicts) tally = ⊤
IsAsTold (forms.List names mode) tally = ⊤
IsAsTold (forms.Json names) tally = ⊤
IsAsTold (forms.Titles shown extent w filled) tally = (w ≡ tally.widths) × (filled.entries ≡ tally.filled.entries)
IsAsTold (forms.Measures shown) tally = ⊤

-- ---- parts

-- none of the facts is a record
abbrev pub AreOthers : List Fact → Type 0
AreOthers facts = (f : Fact) → Contains facts f → row_key_of f ≡ None

-- All facts are those of two parts. Those of the second are records, each at a higher position than each record of the
-- first.
pub record AreInParts (low high all : List Fact) : Type 0 where
  pub low_facts : AreFacts low
  pub high_facts : AreFacts high
  pub all_facts : AreFacts all
  pub union : (f : Fact) → Contains all f ↔ (Contains low f ⊎ Contains high f)
  pub records : (f : Fact) → Contains high f → block_key_of f ≡ None
  pub apart : (k q : RowKey) (r s : Record) → HasRecord low k r → HasRecord high q s → k.position <ℤ q.position

-- if a tally told of the first part, this one tells of it and of these facts as the second
abbrev pub IsToldMore : Form → List Fact → Tally → Tally → Type 0
IsToldMore form high before after =
    (low all : List Fact) → IsTold form low before → AreInParts low high all → IsTold form all after

-- The text of all facts is that of the first part, and then that of the second. If the first has no records, the whole
-- text is what stands before the records, as the first part tells it, and then the text of the records, of which all is
-- told.
pub record FormLaws (form : Form) (low high all : List Fact) : Type 0 where
  pub text : AreInParts low high all → form_text form all ≡ form_text form low ++ form_text form high
  pub whole : AreInParts low high all → AreOthers low
      → whole_text form all ≡ head_text form low ++ form_text form high
  pub told : AreInParts low high all → AreOthers low
      → (tally : Tally) → IsTold form high tally → IsTold form all tally

-- nothing is written of no facts
pub record EmptyLaws (form : Form) : Type 0 where
  pub text : form_text form [] ≡ []

-- the laws, for any form and any parts
pub record AllFormLaws : Type 0 where
  pub parts : (form : Form) (low high all : List Fact) → FormLaws form low high all
  pub empty : (form : Form) → EmptyLaws form

-- ---- the view

-- What is told of facts that are only measured is what is told of their view. If the columns of the view and the
-- numbers of its positions are those that are told of these facts, its whole text is the view of the facts.
pub record ViewLaws (shown : Vec (String Global) Global) (extent : Extent) (w : Widths) (filled : BTreeMap SetKey ℕ)
    (facts : List Fact) (tally : Tally) : Type 0 where
  pub measured : IsTold (forms.Measures shown) facts tally ↔ IsTold (forms.Titles shown extent w filled) facts tally
  pub text : (names : List (List ℕ)) → map string_bytes shown.items ≡ shown_names names
      → IsTold (forms.Titles shown extent w filled) facts tally
      → IsAsTold (forms.Titles shown extent w filled) tally
      → whole_text (forms.Titles shown extent w filled) facts ≡ view extent names [] [] facts

-- whatever the names, the columns, the numbers and the facts are
abbrev pub AllViewLaws : Type 0
AllViewLaws =
    (shown : Vec (String Global) Global) (extent : Extent) (w : Widths) (filled : BTreeMap SetKey ℕ)
    (facts : List Fact) (tally : Tally) → ViewLaws shown extent w filled facts tally
