-- The view is safe to print on a terminal, and its names take at most 24 columns there.
use Rattle.std.specs.Prelude.{◌≡◌, ◌≤◌, ℕ, Option, IsNone, List, [], All}
use Rattle.zmarc.specs.declared.charset.Charset.{Charset}
use Rattle.zmarc.specs.Shown.{IsSafeText}
use Rattle.zknow.specs.declared.fact.Fact.{Fact}
use Rattle.zknow.specs.declared.tables.keys.RowKey.{RowKey}
use Rattle.zknow_stops.specs.declared.stop.Stop.{Stop}
use Rattle.zknow_titles.specs.declared.rows.Widths.{Widths}
use Rattle.zknow_titles.specs.Columns.{width}
use Rattle.zknow_titles.specs.Lines.{ended}
use Rattle.zknow_titles.specs.Names.{shown_names}
use Rattle.zknow_titles.specs.Rows.{name_column, widths}
use Rattle.zknow_titles.specs.Titles.{titles, whole_records, rows_of}

-- lines of safe text, each with a line feed: no other octet below 20, no 7F, UTF-8, and no character that is not safe
pub record IsSafeView (octets : List ℕ) : Type 0 where
  pub lines : List (List ℕ)
  pub made : ended lines ≡ octets
  pub safe : All IsSafeText lines

-- whatever the records, the names, the character sets, the diagnostics and the stops are
abbrev pub SafeLaw : Type 0
SafeLaw =
    (names : List (List ℕ)) (charsets : List (Option Charset)) (stops : List (Option Stop)) (facts : List Fact)
    → IsSafeView (titles names charsets stops facts)

-- the same with whole records
abbrev pub SafeRecordsLaw : Type 0
SafeRecordsLaw =
    (names : List (List ℕ)) (charsets : List (Option Charset)) (stops : List (Option Stop)) (facts : List Fact)
    → IsSafeView (whole_records names charsets stops facts)

-- ---- stops

-- no target stopped
abbrev pub AreQuiet : List (Option Stop) → Type 0
AreQuiet stops = All IsNone stops

-- then the view is that of no stops
abbrev pub QuietLaw : Type 0
QuietLaw =
    (names : List (List ℕ)) (charsets : List (Option Charset)) (stops : List (Option Stop)) (facts : List Fact)
    → AreQuiet stops → titles names charsets stops facts ≡ titles names charsets [] facts

-- the same with whole records
abbrev pub QuietRecordsLaw : Type 0
QuietRecordsLaw =
    (names : List (List ℕ)) (charsets : List (Option Charset)) (stops : List (Option Stop)) (facts : List Fact)
    → AreQuiet stops → whole_records names charsets stops facts ≡ whole_records names charsets [] facts

-- ---- columns of a terminal

-- a printed name that is as wide as the others, and no wider than 24 columns
pub record IsNameColumn (columns : ℕ) (printed : List ℕ) : Type 0 where
  pub aligned : width printed ≡ columns
  pub most : width printed ≤ 24

-- the names of all rows, as they are printed
abbrev pub AreNameColumns : List (List ℕ) → Widths → List RowKey → Type 0
AreNameColumns shown w rows = All (λ k. IsNameColumn w.name (name_column w shown k)) rows

-- the names of the rows of the view, as they are printed
abbrev pub HasNameColumns : List (List ℕ) → List Fact → Type 0
HasNameColumns names facts =
    AreNameColumns (shown_names names) (widths (shown_names names) (rows_of facts)) (rows_of facts)

-- whatever the names and the facts are
abbrev pub NamesLaw : Type 0
NamesLaw = (names : List (List ℕ)) (facts : List Fact) → HasNameColumns names facts
