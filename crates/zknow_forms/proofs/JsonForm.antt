-- The lines of JSON in parts.
use Rattle.std.proofs.Common.{◌≡◌, ℕ, List, [], ◌++◌, refl, sym, ap, ◌∙◌}
use Rattle.std.specs.Prelude.{◌==◌, length, not}
use Rattle.std.specs.List.{flat_map, filter_map}
use Rattle.std.proofs.lemmas.List.{append-nil, append_assoc}
use Rattle.zapdu.specs.declared.productions.record.Record.{Record}
use Rattle.zknow.specs.declared.fact.Fact.{Fact}
use Rattle.zknow.specs.declared.tables.keys.RowKey.{RowKey}
use Rattle.zknow.specs.declared.tables.keys.SetKey.{SetKey}
use Rattle.zknow.specs.Known.{fact_count, fact_diag, fact_failure, counts_at, diags_at, is_failed_at}
use Rattle.zknow.specs.List.Listing.{ascending, block_key_of}
use Rattle.zknow.specs.Tables.Keys.{set_cmp}
use Rattle.zknow_json.specs.Lines.{json_lines}
use Rattle.zknow_json.specs.Records.{records_line, row_line}
use Rattle.zknow_json.specs.Sets.{count_line, diag_line, failure_lines, set_lines}
use Rattle.zknow_records.specs.Records.{rows}
use Rattle.zknow_records.proofs.PartTheory.{flat_same}
use Rattle.zmarc.specs.Charsets.{charset_at}
use Rattle.zknow_forms.specs.Forms.{AreInParts, FormLaws, IsToldMore}
use Rattle.zknow_forms.specs.declared.form.Form.TheVariants as forms
use Rattle.zknow_forms.specs.declared.tally.Tally.{Tally}
use Rattle.zknow_forms.proofs.InParts.{others_same, others_none, rows_apart}

-- the keys of the sets, in order
abbrev set_keys : List Fact → List SetKey
set_keys facts = ascending set_cmp (filter_map block_key_of facts)

module _ (names : List (List ℕ)) where
  -- the lines of the sets
  abbrev all_sets : List Fact → List ℕ
  all_sets facts = flat_map (set_lines names facts) (set_keys facts)

  -- the line of a row with these records
  abbrev row_with : RowKey → List Record → List ℕ
  row_with k records = records_line (charset_at [] k.target) names k records

  -- the lines of the rows
  abbrev all_rows : List Fact → List ℕ
  all_rows facts = flat_map (row_line names [] facts) (rows facts)

  lines_are : (facts : List Fact) → json_lines names [] [] facts ≡ all_sets facts ++ all_rows facts
  unfolding json_lines
  lines_are facts = ap (λ text. text ++ all_rows facts) (append-nil (all_sets facts))

  module _ (low high all : List Fact) where
    module _ (parts : AreInParts low high all) where
      same_lines : (b : SetKey) → set_lines names all b ≡ set_lines names low b
      unfolding set_lines
      same_lines b =
          ap (λ counts. flat_map (count_line names b) counts
          ++ failure_lines names b (is_failed_at b.target b.set all)
          ++ flat_map (diag_line names b) (diags_at b.target b.set all))
          (others_same low high all parts (fact_count b.target b.set) (λ t s p r. refl))
          ∙ ap (λ failures. flat_map (count_line names b) (counts_at b.target b.set low)
          ++ failure_lines names b (not (length failures == 0))
          ++ flat_map (diag_line names b) (diags_at b.target b.set all))
          (others_same low high all parts (fact_failure b.target b.set) (λ t s p r. refl))
          ∙ ap (λ diags. flat_map (count_line names b) (counts_at b.target b.set low)
          ++ failure_lines names b (is_failed_at b.target b.set low)
          ++ flat_map (diag_line names b) diags)
          (others_same low high all parts (fact_diag b.target b.set) (λ t s p r. refl))

      same_sets : all_sets all ≡ all_sets low
      same_sets =
          ap (λ keys. flat_map (set_lines names all) (ascending set_cmp keys))
          (others_same low high all parts block_key_of (λ t s p r. refl))
          ∙ flat_same (set_lines names all) (set_lines names low) (set_keys low) (λ b h. same_lines b)

      no_sets : all_sets high ≡ []
      no_sets =
          ap (λ keys. flat_map (set_lines names high) (ascending set_cmp keys))
          (others_none low high all parts block_key_of (λ t s p r. refl))

      rows_in_parts : all_rows all ≡ all_rows low ++ all_rows high
      unfolding row_line
      rows_in_parts = rows_apart low high all parts row_with

      json_parts : json_lines names [] [] all ≡ json_lines names [] [] low ++ json_lines names [] [] high
      json_parts =
          lines_are all
          ∙ ap (λ text. text ++ all_rows all) same_sets
          ∙ ap (λ text. all_sets low ++ text) rows_in_parts
          ∙ sym (append_assoc (all_sets low) (all_rows low) (all_rows high))
          ∙ ap (λ text. (all_sets low ++ all_rows low) ++ (text ++ all_rows high)) (sym no_sets)
          ∙ ap (λ text. text ++ (all_sets high ++ all_rows high)) (sym (lines_are low))
          ∙ ap (λ text. json_lines names [] [] low ++ text) (sym (lines_are high))

    pub json_laws : FormLaws (forms.Json names) low high all
    json_laws = record {
      text = json_parts;
      whole = λ parts none. json_parts parts;
      told = λ parts none tally told. record {
        left = told.left;
        columns = told.columns;
        positions = told.positions;
      };
    }

  -- the same tally tells of more facts
  pub json_more : (high : List Fact) (tally : Tally) → IsToldMore (forms.Json names) high tally tally
  json_more high tally low all told parts =
      record { left = told.left; columns = told.columns; positions = told.positions }
