-- The names of rows take at most 24 columns as they are printed, all the same number.
use Rattle.std.proofs.Common.{ℕ, ◌≤◌, List, [], ◌∷◌, arith}
use Rattle.std.specs.Prelude.{All, fold}
use Rattle.std.specs.Str.{IsUtf8}
use Rattle.std.proofs.lemmas.List.Elements.{All-nil, All-cons, All-weaker}
use Rattle.zknow.specs.declared.fact.Fact.{Fact}
use Rattle.zknow.specs.declared.tables.keys.RowKey.{RowKey}
use Rattle.zknow_titles.specs.declared.rows.Widths.{Widths}
use Rattle.zknow_titles.specs.Laws.{IsNameColumn, HasNameColumns}
use Rattle.zknow_titles.specs.Names.{shown_names, label}
use Rattle.zknow_titles.specs.Rows.{row_name, name_width, name_column, wider, widths}
use Rattle.zknow_titles.specs.Titles.{rows_of}
use Rattle.zknow_titles.proofs.SafeTheory.{label_safe, clipped_safe}
use Rattle.zknow_titles.proofs.WidthTheory.{clipped_width, padded_width}

-- ---- the columns of names, over all rows

name_most : (shown : List (List ℕ)) (k : RowKey) → name_width shown k ≤ 24
name_most shown k = clipped_width _ (label shown k.target k.set) (omega arith)

no_less : (shown : List (List ℕ)) (w : Widths) (rows : List RowKey) → w.name ≤ (fold (wider shown) w rows).name
no_less shown w [] = omega arith
no_less shown w (k ∷ rows) =
    let rest = no_less shown (wider shown w k) rows in
    omega (arith, rest)

all_fit : (shown : List (List ℕ)) (w : Widths) (rows : List RowKey)
    → All (λ k. name_width shown k ≤ (fold (wider shown) w rows).name) rows
all_fit shown w [] = All-nil (λ k. name_width shown k ≤ w.name)
all_fit shown w (k ∷ rows) =
    let later = fold (wider shown) (wider shown w k) rows in
    let more = no_less shown (wider shown w k) rows in
    let first : name_width shown k ≤ later.name = omega (arith, more) in
    All-cons (λ r. name_width shown r ≤ later.name) k rows first (all_fit shown (wider shown w k) rows)

at_most : (shown : List (List ℕ)) (w : Widths) (rows : List RowKey) → w.name ≤ 24
    → (fold (wider shown) w rows).name ≤ 24
at_most shown w [] h = h
at_most shown w (k ∷ rows) h =
    let name = name_most shown k in
    let one : (wider shown w k).name ≤ 24 = omega (arith, name) in
    at_most shown (wider shown w k) rows one

-- ---- names as they are printed

name_utf8 : (names : List (List ℕ)) (k : RowKey) → IsUtf8 (row_name (shown_names names) k)
name_utf8 names k =
    (clipped_safe _ (label (shown_names names) k.target k.set) (label_safe names k.target k.set)).utf8

column : (names : List (List ℕ)) (w : Widths) (k : RowKey) → w.name ≤ 24
    → name_width (shown_names names) k ≤ w.name → IsNameColumn w.name (name_column w (shown_names names) k)
column names w k h fits =
    let same = padded_width w.name (row_name (shown_names names) k) (name_utf8 names k) fits in
    record { aligned = same; most = omega (arith, same) }

pub names_have_columns : (names : List (List ℕ)) (facts : List Fact) → HasNameColumns names facts
names_have_columns names facts =
    let shown = shown_names names in
    let rows = rows_of facts in
    let w = widths shown rows in
    let none : Widths = record { position = 0; name = 0 } in
    All-weaker (λ k. name_width shown k ≤ w.name) (λ k. IsNameColumn w.name (name_column w shown k))
    (λ k fits. column names w k (at_most shown none rows (omega arith)) fits) rows (all_fit shown none rows)
