-- The list in parts.
use Rattle.std.proofs.Common.{◌≡◌, ℕ, List, [], ◌++◌, refl, sym, ap, ◌∙◌}
use Rattle.std.specs.Prelude.{codes}
use Rattle.std.specs.Fmt.{decimal, signed_decimal}
use Rattle.std.specs.List.{flat_map, filter_map}
use Rattle.std.proofs.lemmas.List.{append_assoc}
use Rattle.zapdu.specs.declared.productions.record.Record.{Record}
use Rattle.zber.specs.declared.text.Mode.{Mode}
use Rattle.zknow.specs.declared.fact.Fact.{Fact}
use Rattle.zknow.specs.declared.tables.keys.RowKey.{RowKey}
use Rattle.zknow.specs.declared.tables.keys.SetKey.{SetKey}
use Rattle.zknow.specs.List.Listing.{ascending, block_key_of, block_text, entry_text, is_hex, line_in, listing, row_text, target_text}
use Rattle.zknow.specs.Tables.Keys.{set_cmp}
use Rattle.zknow_records.specs.Records.{rows}
use Rattle.zknow_records.proofs.PartTheory.{flat_same}
use Rattle.zknow_forms.specs.Forms.{AreInParts, FormLaws, EmptyLaws, IsToldMore}
use Rattle.zknow_forms.specs.declared.form.Form.TheVariants as forms
use Rattle.zknow_forms.specs.declared.tally.Tally.{Tally}
use Rattle.zknow_forms.proofs.InParts.{others_same, others_none, lines_same, rows_apart}

-- the keys of the blocks, in order
abbrev block_keys : List Fact → List SetKey
block_keys facts = ascending set_cmp (filter_map block_key_of facts)

module _ (names : List (List ℕ)) (mode : Mode) where
  -- the blocks
  abbrev blocks : List Fact → List ℕ
  blocks facts = flat_map (block_text names facts) (block_keys facts)

  -- a row with these records
  abbrev row_with : RowKey → List Record → List ℕ
  row_with k records =
      signed_decimal k.position ++ codes " " ++ target_text names k.target ++ codes " " ++ decimal k.set
      ++ entry_text (is_hex mode) records

  -- the rows
  abbrev row_texts : List Fact → List ℕ
  row_texts facts = flat_map (row_text names (is_hex mode) facts) (rows facts)

  module _ (low high all : List Fact) where
    module _ (parts : AreInParts low high all) where
      same_blocks : blocks all ≡ blocks low
      same_blocks =
          ap (λ keys. flat_map (block_text names all) (ascending set_cmp keys))
          (others_same low high all parts block_key_of (λ t s p r. refl))
          ∙ flat_same (block_text names all) (block_text names low) (block_keys low)
          (λ b h. lines_same low high all parts (line_in names b) (λ t s p r. refl))

      no_blocks : blocks high ≡ []
      no_blocks =
          ap (λ keys. flat_map (block_text names high) (ascending set_cmp keys))
          (others_none low high all parts block_key_of (λ t s p r. refl))

      list_parts : listing names mode all ≡ listing names mode low ++ listing names mode high
      list_parts =
          ap (λ text. text ++ row_texts all) same_blocks
          ∙ ap (λ text. blocks low ++ text) (rows_apart low high all parts row_with)
          ∙ sym (append_assoc (blocks low) (row_texts low) (row_texts high))
          ∙ ap (λ text. (blocks low ++ row_texts low) ++ (text ++ row_texts high)) (sym no_blocks)

    pub list_laws : FormLaws (forms.List names mode) low high all
    list_laws = record {
      text = list_parts;
      whole = λ parts none. list_parts parts;
      told = λ parts none tally told. record {
        left = told.left;
        columns = told.columns;
        positions = told.positions;
      };
    }

  pub list_empty : EmptyLaws (forms.List names mode)
  list_empty = record { text = refl }

  -- the same tally tells of more facts
  pub list_more : (high : List Fact) (tally : Tally) → IsToldMore (forms.List names mode) high tally tally
  list_more high tally low all told parts =
      record { left = told.left; columns = told.columns; positions = told.positions }
