-- The view in two parts: what stands before the rows, and the rows, in columns of given widths.
use Rattle.std.specs.Prelude.{◌≡◌, ℕ, ◌==◌, ◌||◌, if◌then◌else◌, max, Option, List, [], ◌++◌, codes, length}
use Rattle.std.specs.List.{flat_map}
use Rattle.zknow.specs.declared.fact.Fact.{Fact}
use Rattle.zknow.specs.declared.tables.keys.RowKey.{RowKey}
use Rattle.zknow.specs.declared.tables.keys.SetKey.{SetKey}
use Rattle.zmarc.specs.declared.charset.Charset.{Charset}
use Rattle.zknow_stops.specs.declared.stop.Stop.{Stop}
use Rattle.zknow_titles.specs.declared.rows.Widths.{Widths}
use Rattle.zknow_titles.specs.declared.wholes.Extent.{Extent}
use Rattle.zknow_titles.specs.Blocks.{filled_in}
use Rattle.zknow_titles.specs.Heads.{head_lines_with}
use Rattle.zknow_titles.specs.Lines.{ended}
use Rattle.zknow_titles.specs.Names.{shown_names}
use Rattle.zknow_titles.specs.Rows.{widths, row_lines}
use Rattle.zknow_titles.specs.Titles.{sets_of, rows_of, view}

-- the greater of both widths
abbrev pub widest : Widths → Widths → Widths
widest a b = record { position = max a.position b.position; name = max a.name b.name }

-- an empty line behind the head, where it has lines and rows have columns
abbrev pub gap : {X : Type 0} → Widths → List X → List ℕ
gap w head = if length head == 0 || w.position == 0 then [] else codes "\n"

-- What stands before the rows, if their columns have these widths. `filled` says at how many positions of each set a
-- record is shown.
abbrev pub title_top : Widths → (SetKey → ℕ) → List (List ℕ) → List (Option Stop) → List Fact → List ℕ
title_top w filled shown stops facts =
    ended (head_lines_with filled shown facts 0 stops (sets_of facts))
    ++ gap w (head_lines_with filled shown facts 0 stops (sets_of facts))

-- the rows, in columns of these widths
abbrev pub title_rows : Extent → Widths → List (List ℕ) → List (Option Charset) → List Fact → List ℕ
title_rows extent w shown charsets facts = ended (flat_map (row_lines extent w shown charsets facts) (rows_of facts))

-- The view has both parts, in columns of the widths that its rows need, if `filled` says of each set at how many
-- positions a record is shown.
pub record TitlePartLaw (extent : Extent) (names : List (List ℕ)) (charsets : List (Option Charset))
    (stops : List (Option Stop)) (facts : List Fact) (w : Widths) (filled : SetKey → ℕ) : Type 0 where
  pub both : widths (shown_names names) (rows_of facts) ≡ w
      → ((b : SetKey) → filled_in facts b ≡ filled b)
      → view extent names charsets stops facts
      ≡ title_top w filled (shown_names names) stops facts ++ title_rows extent w (shown_names names) charsets facts

-- whatever the names, the character sets, the stops and the facts are
abbrev pub AllTitlePartLaws : Type 0
AllTitlePartLaws =
    (extent : Extent) (names : List (List ℕ)) (charsets : List (Option Charset)) (stops : List (Option Stop))
    (facts : List Fact) (w : Widths) (filled : SetKey → ℕ)
    → TitlePartLaw extent names charsets stops facts w filled

-- rows need the columns of their parts, the greater of both
abbrev pub WidthsLaw : Type 0
WidthsLaw =
    (shown : List (List ℕ)) (xs ys : List RowKey)
    → widths shown (xs ++ ys) ≡ widest (widths shown xs) (widths shown ys)
