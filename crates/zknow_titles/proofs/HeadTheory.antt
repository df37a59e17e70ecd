-- The head of the view: it has octets if it has lines, and without stops it has the lines of the sets.
use Rattle.std.proofs.Common.{◌≡◌, ℕ, ◌+◌, ◌||◌, ◌==◌, cond, Option, Some, None, List, [], ◌∷◌, ◌++◌, length, map, take, drop, eqb, true≢false, refl, sym, ap, ◌∙◌, arith}
use Rattle.std.specs.Prelude.{codes, IsNone}
use Rattle.std.specs.List.{flat_map}
use Rattle.std.proofs.Math.Dec.{eqb-suc-zero}
use Rattle.std.proofs.lemmas.Grind.{common_steps}
use Rattle.std.proofs.lemmas.List.{map-append, take-append-drop}
use Rattle.std.proofs.lemmas.List.Elements.{All-head, All-tail}
use Rattle.zknow.specs.declared.fact.Fact.{Fact}
use Rattle.zknow.specs.declared.tables.keys.RowKey.{RowKey}
use Rattle.zknow.specs.declared.tables.keys.SetKey.{SetKey}
use Rattle.zmarc.specs.declared.charset.Charset.{Charset}
use Rattle.zknow_stops.specs.declared.stop.Stop.{Stop}
use Rattle.zknow_titles.specs.declared.wholes.Extent.{Extent}
use Rattle.zknow_titles.specs.declared.wholes.Extent.TheVariants.{Title, Whole}
use Rattle.zknow_titles.specs.Blocks.{block_line, filled_in}
use Rattle.zknow_titles.specs.Heads.{front_count, head_lines_with}
use Rattle.zknow_titles.specs.Laws.{AreQuiet, QuietLaw, QuietRecordsLaw}
use Rattle.zknow_titles.specs.Lines.{ended}
use Rattle.zknow_titles.specs.Names.{shown_names}
use Rattle.zknow_titles.specs.Rows.{widths, row_lines}
use Rattle.zknow_titles.specs.Titles.{between, view, titles, whole_records, sets_of, rows_of}

-- ---- the line behind the head

pub no_octets : (head : List (List ℕ)) → eqb (length (ended head)) 0 ≡ eqb (length head) 0
no_octets [] = refl
no_octets ([] ∷ head) = eqb-suc-zero (length (ended head)) ∙ sym (eqb-suc-zero (length head))
no_octets ((x ∷ xs) ∷ head) =
    eqb-suc-zero (length ((xs ++ codes "\n") ++ ended head)) ∙ sym (eqb-suc-zero (length head))

-- an empty line stands behind the octets of lines just if it stands behind the lines
pub between_ended : (head : List (List ℕ)) (rows : List RowKey) → between (ended head) rows ≡ between head rows
between_ended head rows = ap (λ b. cond (b || (length rows == 0)) [] ([] ∷ [])) (no_octets head)

ends_joined : (before : List ℕ) (head gap lines : List (List ℕ))
    → ((before ++ ended head) ++ ended gap) ++ ended lines ≡ before ++ ended (head ++ gap ++ lines)
ends_joined before head gap lines = grind (arith, common_steps)

-- what stands behind the head, the line between and the rows were appended
pub all_appended : (before headed gapped whole octets again : List ℕ) (head found lines : List (List ℕ))
    (rows : List RowKey) → octets ≡ ended head → again ≡ ended head → found ≡ lines → headed ≡ before ++ octets
    → gapped ≡ headed ++ ended (between again rows) → whole ≡ gapped ++ ended found
    → whole ≡ before ++ ended (head ++ between head rows ++ lines)
all_appended before headed gapped whole octets again head found lines rows same more all first gap last =
    let one : headed ≡ before ++ ended head = first ∙ ap (λ l. before ++ l) same in
    let empty : ended (between again rows) ≡ ended (between head rows) =
    ap (λ l. ended (between l rows)) more ∙ ap ended (between_ended head rows) in
    let two : gapped ≡ (before ++ ended head) ++ ended (between head rows) =
    gap ∙ ap (λ l. l ++ ended (between again rows)) one ∙ ap (λ l. (before ++ ended head) ++ l) empty in
    last ∙ ap (λ l. l ++ ended found) two
    ∙ ap (λ l. ((before ++ ended head) ++ ended (between head rows)) ++ ended l) all
    ∙ ends_joined before head (between head rows) lines

-- ---- without stops

quiet_head : (filled : SetKey → ℕ) (shown : List (List ℕ)) (facts : List Fact) (target : ℕ)
    (stops : List (Option Stop)) (sets : List SetKey)
    → AreQuiet stops → head_lines_with filled shown facts target stops sets ≡ map (block_line filled shown facts) sets
quiet_head filled shown facts target [] sets h = refl
quiet_head filled shown facts target (None ∷ stops) sets h =
    let n = front_count target sets in
    ap (λ rest. map (block_line filled shown facts) (take n sets) ++ rest)
    (quiet_head filled shown facts (target + 1) stops (drop n sets) (All-tail IsNone None stops h))
    ∙ sym (map-append (block_line filled shown facts) (take n sets) (drop n sets))
    ∙ ap (map (block_line filled shown facts)) (take-append-drop n sets)
quiet_head filled shown facts target (Some s ∷ stops) sets h =
    absurd (true≢false (All-head IsNone (Some s) stops h))

quiet_either_way : (extent : Extent) (names : List (List ℕ)) (charsets : List (Option Charset))
    (stops : List (Option Stop)) (facts : List Fact) → AreQuiet stops
    → view extent names charsets stops facts ≡ view extent names charsets [] facts
quiet_either_way extent names charsets stops facts h =
    let shown = shown_names names in
    let rows = rows_of facts in
    ap (λ head. ended (head ++ between head rows
    ++ flat_map (row_lines extent (widths shown rows) shown charsets facts) rows))
    (quiet_head (filled_in facts) shown facts 0 stops (sets_of facts) h)

pub quiet_view : QuietLaw
unfolding titles
quiet_view names charsets stops facts h = quiet_either_way Title names charsets stops facts h

pub quiet_records : QuietRecordsLaw
unfolding whole_records
quiet_records names charsets stops facts h = quiet_either_way Whole names charsets stops facts h
