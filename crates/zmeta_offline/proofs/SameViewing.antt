-- What is printed depends on what is told of why connections stopped, and on nothing else of it.
use Rattle.std.proofs.Common.{◌≡◌, refl, ap, ℕ, ◌+◌, List, [], ◌∷◌, ◌++◌, take, drop, Option, Some, None}
use Rattle.zmarc.specs.declared.charset.Charset.{Charset}
use Rattle.zknow.specs.declared.fact.Fact.{Fact}
use Rattle.zknow.specs.declared.tables.keys.SetKey.{SetKey}
use Rattle.zknow_html.specs.Catalogues.{stop_row, stop_rows, stops_from}
use Rattle.zknow_html.specs.Page.{page, tables}
use Rattle.zknow_json.specs.Lines.{json_lines}
use Rattle.zknow_json.specs.Stops.{reason_members, stop_line, stop_lines, lines_from}
use Rattle.zknow_stops.specs.declared.detail.Detail.{Detail}
use Rattle.zknow_stops.specs.declared.stop.Stop.{Stop}
use Rattle.zknow_titles.specs.Heads.{stopped_lines, target_lines, front_count, head_lines}
use Rattle.zknow_titles.specs.Names.{shown_names}
use Rattle.zknow_titles.specs.Titles.{sets_of, titles, whole_records}
use Rattle.zmeta_args.specs.declared.arguments.View.{View}
use Rattle.zmeta_args.specs.declared.arguments.View.TheVariants.{Text, Hex, Titles, Fields, Json, Html}
use Rattle.zmeta_offline.specs.SameViews.{IsSameStop, IsSameStopIf, AreSameStops, SameViewLaw}

-- ---- for readers

same_target : (shown : List (List ℕ)) (facts : List Fact) (target : ℕ) (s t : Option Stop) (sets : List SetKey)
    → IsSameStopIf s t → target_lines shown facts target s sets ≡ target_lines shown facts target t sets
same_target shown facts target None None sets is = refl
same_target shown facts target None (Some t) sets is = absurd is
same_target shown facts target (Some s) None sets is = absurd is
same_target shown facts target (Some s) (Some t) sets is =
    ap (λ (d : Detail). stopped_lines shown facts target d sets) is.detail

same_head : (shown : List (List ℕ)) (facts : List Fact) (target : ℕ) (one other : List (Option Stop))
    (sets : List SetKey) → AreSameStops one other
    → head_lines shown facts target one sets ≡ head_lines shown facts target other sets
same_head shown facts target [] [] sets is = refl
same_head shown facts target [] (t ∷ ts) sets is = absurd is
same_head shown facts target (s ∷ ss) [] sets is = absurd is
same_head shown facts target (s ∷ ss) (t ∷ ts) sets is =
    let n = front_count target sets in
    let first = same_target shown facts target s t (take n sets) is.0 in
    let others = same_head shown facts (target + 1) ss ts (drop n sets) is.1 in
    λ i. first i ++ others i

-- ---- the page

same_row : (shown : List (List ℕ)) (target : ℕ) (s t : Option Stop) → IsSameStopIf s t
    → stop_rows shown target s ≡ stop_rows shown target t
unfolding stop_row
same_row shown target None None is = refl
same_row shown target None (Some t) is = absurd is
same_row shown target (Some s) None is = absurd is
same_row shown target (Some s) (Some t) is =
    ap (λ (d : Detail). stop_row shown target (record { reason = s.reason; detail = d })) is.detail

same_rows : (shown : List (List ℕ)) (target : ℕ) (one other : List (Option Stop)) → AreSameStops one other
    → stops_from shown target one ≡ stops_from shown target other
same_rows shown target [] [] is = refl
same_rows shown target [] (t ∷ ts) is = absurd is
same_rows shown target (s ∷ ss) [] is = absurd is
same_rows shown target (s ∷ ss) (t ∷ ts) is =
    let first = same_row shown target s t is.0 in
    let others = same_rows shown (target + 1) ss ts is.1 in
    λ i. first i ++ others i

-- ---- lines of JSON

same_line : (names : List (List ℕ)) (target : ℕ) (s t : Option Stop) → IsSameStopIf s t
    → stop_lines names target s ≡ stop_lines names target t
unfolding stop_line reason_members
same_line names target None None is = refl
same_line names target None (Some t) is = absurd is
same_line names target (Some s) None is = absurd is
same_line names target (Some s) (Some t) is =
    λ i. stop_line names target
    (record { reason = record { ref_ptr = s.reason.ref_ptr; now = is.reason i }; detail = is.detail i })

same_lines : (names : List (List ℕ)) (target : ℕ) (one other : List (Option Stop)) → AreSameStops one other
    → lines_from names target one ≡ lines_from names target other
same_lines names target [] [] is = refl
same_lines names target [] (t ∷ ts) is = absurd is
same_lines names target (s ∷ ss) [] is = absurd is
same_lines names target (s ∷ ss) (t ∷ ts) is =
    let first = same_line names target s t is.0 in
    let others = same_lines names (target + 1) ss ts is.1 in
    λ i. first i ++ others i

-- ---- each view

same_titles : (names : List (List ℕ)) (charsets : List (Option Charset)) (one other : List (Option Stop))
    (facts : List Fact)
    → AreSameStops one other → titles names charsets one facts ≡ titles names charsets other facts
unfolding titles
same_titles names charsets one other facts is =
    rw (same_head (shown_names names) facts 0 one other (sets_of facts) is) refl

same_records : (names : List (List ℕ)) (charsets : List (Option Charset)) (one other : List (Option Stop))
    (facts : List Fact)
    → AreSameStops one other → whole_records names charsets one facts ≡ whole_records names charsets other facts
unfolding whole_records
same_records names charsets one other facts is =
    rw (same_head (shown_names names) facts 0 one other (sets_of facts) is) refl

same_tables : (shown : List (List ℕ)) (charsets : List (Option Charset)) (one other : List (Option Stop))
    (facts : List Fact)
    → AreSameStops one other → tables shown charsets one facts ≡ tables shown charsets other facts
unfolding tables
same_tables shown charsets one other facts is = rw (same_rows shown 0 one other is) refl

same_page : (heading : List ℕ) (names : List (List ℕ)) (charsets : List (Option Charset))
    (one other : List (Option Stop)) (facts : List Fact)
    → AreSameStops one other → page heading names charsets one facts ≡ page heading names charsets other facts
unfolding page
same_page heading names charsets one other facts is =
    rw (same_tables (shown_names names) charsets one other facts is) refl

same_json : (names : List (List ℕ)) (charsets : List (Option Charset)) (one other : List (Option Stop))
    (facts : List Fact)
    → AreSameStops one other → json_lines names charsets one facts ≡ json_lines names charsets other facts
unfolding json_lines
same_json names charsets one other facts is = rw (same_lines names 0 one other is) refl

pub same_view : SameViewLaw
same_view names Text charsets one other facts is = refl
same_view names Hex charsets one other facts is = refl
same_view names Titles charsets one other facts is = same_titles names charsets one other facts is
same_view names Fields charsets one other facts is = same_records names charsets one other facts is
same_view names (Html heading) charsets one other facts is = same_page heading.now names charsets one other facts is
same_view names Json charsets one other facts is = same_json names charsets one other facts is
