-- The view is what stands before its rows, and then its rows.
use Rattle.std.proofs.Common.{◌≡◌, ℕ, zero, suc, ◌+◌, ◌/◌, ◌%◌, ◌≤◌, ◌<◌, ◌||◌, ◌==◌, Bool, true, false, cond, Option, List, [], ◌∷◌, ◌++◌, length, eqb, refl, sym, ap, ap₂, ◌∙◌, arith}
use Rattle.std.specs.Prelude.{ℤ, pos, negsuc, codes, fold}
use Rattle.std.specs.Fmt.{decimal, signed_decimal, digits, digits_onto, digit_glyph}
use Rattle.std.specs.List.{flat_map}
use Rattle.std.proofs.Math.Dec.{eqb-suc-zero}
use Rattle.std.proofs.lemmas.Bool.{cond_both, ne_eqb}
use Rattle.std.proofs.lemmas.Grind.{common_steps}
use Rattle.zknow.specs.declared.fact.Fact.{Fact}
use Rattle.zknow.specs.declared.tables.keys.RowKey.{RowKey}
use Rattle.zknow.specs.declared.tables.keys.SetKey.{SetKey}
use Rattle.zmarc.specs.declared.charset.Charset.{Charset}
use Rattle.zknow_stops.specs.declared.stop.Stop.{Stop}
use Rattle.zknow_titles.specs.declared.rows.Widths.{Widths}
use Rattle.zknow_titles.specs.declared.wholes.Extent.{Extent}
use Rattle.zknow_titles.specs.Blocks.{filled_in}
use Rattle.zknow_titles.specs.Heads.{head_lines_with}
use Rattle.zknow_titles.specs.Lines.{ended}
use Rattle.zknow_titles.specs.Names.{shown_names}
use Rattle.zknow_titles.specs.Parts.{gap, title_top, title_rows, TitlePartLaw, AllTitlePartLaws}
use Rattle.zknow_titles.specs.Rows.{position_width, wider, widths, row_lines}
use Rattle.zknow_titles.specs.Titles.{between, sets_of, rows_of, view}
use Rattle.zknow_titles.proofs.HeadTheory.{no_octets}

-- ---- a position has a digit

digits_behind : (k base n : ℕ) (acc : List ℕ) → length acc ≤ length (digits_onto k base false n acc)
digits_behind zero base n acc = omega arith
digits_behind (suc k) base n acc =
    let later = digits_behind k base (n / base) (digit_glyph false (n % base) ∷ acc) in
    cond_both (n / base == 0) (digit_glyph false (n % base) ∷ acc)
    (digits_onto k base false (n / base) (digit_glyph false (n % base) ∷ acc)) (λ found. length acc ≤ length found)
    (λ _. omega arith) (λ _. omega (arith, later))

some_digit : (k base n : ℕ) (acc : List ℕ) → length acc < length (digits_onto (suc k) base false n acc)
some_digit k base n acc =
    let later = digits_behind k base (n / base) (digit_glyph false (n % base) ∷ acc) in
    cond_both (n / base == 0) (digit_glyph false (n % base) ∷ acc)
    (digits_onto k base false (n / base) (digit_glyph false (n % base) ∷ acc)) (λ found. length acc < length found)
    (λ _. omega arith) (λ _. omega (arith, later))

some_decimal : (n : ℕ) → 0 < length (decimal n)
unfolding digits
some_decimal n = some_digit 63 10 n []

some_column : (z : ℤ) → 0 < length (signed_decimal z)
some_column (pos n) = some_decimal n
some_column (negsuc n) = omega arith

-- ---- rows have columns if there are any

no_fewer : (shown : List (List ℕ)) (w : Widths) (rows : List RowKey)
    → w.position ≤ (fold (wider shown) w rows).position
no_fewer shown w [] = omega arith
no_fewer shown w (k ∷ rows) =
    let rest = no_fewer shown (wider shown w k) rows in
    omega (arith, rest)

-- no columns for positions are no rows
pub no_rows : (shown : List (List ℕ)) (rows : List RowKey)
    → eqb (widths shown rows).position 0 ≡ eqb (length rows) 0
no_rows shown [] = refl
no_rows shown (k ∷ rows) =
    let none : Widths = record { position = 0; name = 0 } in
    let one = some_column k.position in
    let rest = no_fewer shown (wider shown none k) rows in
    let more : 0 < (widths shown (k ∷ rows)).position = omega (arith, one, rest) in
    ne_eqb (widths shown (k ∷ rows)).position 0 (λ same. omega (arith, more, same)) ∙ sym (eqb-suc-zero (length rows))

-- ---- both parts

-- an empty line stands behind the octets of lines just if it stands behind the lines
pub gap_ended : (w : Widths) (head : List (List ℕ)) → gap w (ended head) ≡ gap w head
gap_ended w head = ap (λ b. cond (b || (w.position == 0)) [] (codes "\n")) (no_octets head)

-- what stands before the rows was appended to nothing
pub top_made : (w : Widths) (head : List (List ℕ)) (text octets gapped between whole : List ℕ) → text ≡ ended head
    → octets ≡ ended head → between ≡ [] → gapped ≡ between ++ gap w octets → whole ≡ text ++ gapped
    → whole ≡ ended head ++ gap w head
top_made w head text octets gapped between whole first same none gap_put all =
    all
    ∙ ap₂ (λ a b. a ++ b) first
    (gap_put ∙ ap₂ (λ a b. a ++ gap w b) none same ∙ gap_ended w head)

line_or_none : (none : Bool) → ended (cond none [] ([] ∷ [])) ≡ cond none [] (codes "\n")
line_or_none true = refl
line_or_none false = refl

-- the empty line between both parts is the one that the view has
gap_between : (shown head : List (List ℕ)) (rows : List RowKey)
    → ended (between head rows) ≡ gap (widths shown rows) head
gap_between shown head rows =
    line_or_none ((length head == 0) || (length rows == 0))
    ∙ ap (λ b. cond ((length head == 0) || b) [] (codes "\n")) (sym (no_rows shown rows))

in_three : (head gap rows : List (List ℕ)) → ended (head ++ gap ++ rows) ≡ (ended head ++ ended gap) ++ ended rows
in_three head gap rows = grind (arith, common_steps)

pub title_parts : AllTitlePartLaws
title_parts extent names charsets stops facts w filled =
    let shown = shown_names names in
    let rows = rows_of facts in
    let head : (SetKey → ℕ) → List (List ℕ) = λ n. head_lines_with n shown facts 0 stops (sets_of facts) in
    let lines : Widths → List (List ℕ) = λ v. flat_map (row_lines extent v shown charsets facts) rows in
    let own = head (filled_in facts) in
    record {
      both = λ same told. in_three own (between own rows) (lines (widths shown rows))
          ∙ ap (λ g. (ended own ++ g) ++ ended (lines (widths shown rows))) (gap_between shown own rows)
          ∙ ap (λ v. (ended own ++ gap v own) ++ ended (lines v)) same
          ∙ (λ i. (ended (head (λ b. told b i)) ++ gap w (head (λ b. told b i))) ++ ended (lines w));
    }
