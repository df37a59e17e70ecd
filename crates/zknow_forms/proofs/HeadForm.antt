-- What stands in the view before its rows is told by facts that are no records, but for numbers that are given.
use Rattle.std.proofs.Common.{◌≡◌, ℕ, ℤ, Bool, List, [], ◌++◌, refl, ap, ◌∙◌}
use Rattle.std.specs.Prelude.{◌==◌, codes, length, map, not}
use Rattle.std.specs.List.{flat_map, filter_map}
use Rattle.zapdu.specs.declared.productions.diagnostic.DiagRec.{DiagRec}
use Rattle.zknow.specs.declared.fact.Fact.{Fact}
use Rattle.zknow.specs.declared.tables.keys.SetKey.{SetKey}
use Rattle.zknow.specs.Known.{fact_count, fact_diag, fact_failure, counts_at, diags_at, is_failed_at}
use Rattle.zknow.specs.List.Listing.{ascending, block_key_of}
use Rattle.zknow.specs.Tables.Keys.{set_cmp}
use Rattle.zknow_titles.specs.declared.rows.Widths.{Widths}
use Rattle.zknow_titles.specs.Blocks.{block_line, count_part, failure_part, joined_by, request_text, search_text}
use Rattle.zknow_titles.specs.Lines.{ended}
use Rattle.zknow_titles.specs.Names.{label}
use Rattle.zknow_titles.specs.Parts.{gap, title_top}
use Rattle.zknow_forms.specs.Forms.{AreInParts}
use Rattle.zknow_forms.proofs.InParts.{others_same}

module _ (w : Widths) (filled : SetKey → ℕ) (shown : List (List ℕ)) (low high all : List Fact)
    (parts : AreInParts low high all) where
  -- the line of a set with these counts, this failure and these diagnostics
  abbrev line_of : SetKey → List ℤ → Bool → List (ℤ × DiagRec) → List ℕ
  line_of b counts failed diags =
      label shown b.target b.set ++ codes ": " ++ joined_by (codes "; ")
      (count_part (filled b) counts ++ failure_part b.set failed (flat_map search_text diags)
      ++ flat_map request_text diags)

  same_line : (b : SetKey) → block_line filled shown all b ≡ block_line filled shown low b
  same_line b =
      ap (λ counts. line_of b counts (is_failed_at b.target b.set all) (diags_at b.target b.set all))
      (others_same low high all parts (fact_count b.target b.set) (λ t s p r. refl))
      ∙ ap (λ failures. line_of b (counts_at b.target b.set low) (not (length failures == 0))
      (diags_at b.target b.set all))
      (others_same low high all parts (fact_failure b.target b.set) (λ t s p r. refl))
      ∙ ap (line_of b (counts_at b.target b.set low) (is_failed_at b.target b.set low))
      (others_same low high all parts (fact_diag b.target b.set) (λ t s p r. refl))

  -- these lines, and what stands between them and the rows
  abbrev top_of : List (List ℕ) → List ℕ
  top_of lines = ended lines ++ gap w lines

  -- the lines of these sets
  abbrev lines_of : (SetKey → List ℕ) → List SetKey → List ℕ
  lines_of line keys = top_of (map line (ascending set_cmp keys))

  pub same_top : title_top w filled shown [] all ≡ title_top w filled shown [] low
  same_top =
      (λ i. lines_of (λ b. same_line b i) (filter_map block_key_of all))
      ∙ ap (lines_of (block_line filled shown low))
      (others_same low high all parts block_key_of (λ t s p r. refl))
