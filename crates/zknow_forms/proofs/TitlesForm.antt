-- The view for readers in parts, and its measures.
use Rattle.std.proofs.Common.{◌≡◌, ◌+◌, ℕ, List, [], ◌++◌, OnOk, Result, Ok, Err, refl, sym, ap, ◌∙◌, arith}
use Rattle.std.specs.BTreeMap.{BTreeMap}
use Rattle.std.specs.Prelude.{String, Vec, map, string_bytes}
use Rattle.std.specs.declared.alloc.Global.{Global}
use Rattle.std.specs.List.{flat_map}
use Rattle.std.proofs.lemmas.Grind.{flat_map-append}
use Rattle.zapdu.specs.declared.productions.record.Record.{Record}
use Rattle.zknow.specs.declared.fact.Fact.{Fact}
use Rattle.zknow.specs.declared.tables.keys.RowKey.{RowKey}
use Rattle.zknow.specs.declared.tables.keys.SetKey.{SetKey}
use Rattle.zknow_records.specs.Records.{rows}
use Rattle.zmarc.specs.Charsets.{charset_at}
use Rattle.zknow_titles.specs.declared.rows.Widths.{Widths}
use Rattle.zknow_titles.specs.declared.wholes.Extent.{Extent}
use Rattle.zknow_titles.specs.Blocks.{filled_at, filled_in}
use Rattle.zknow_titles.specs.Lines.{ended, ended_line}
use Rattle.zknow_titles.specs.Parts.{title_rows, title_top, widest}
use Rattle.zknow_titles.specs.Rows.{row_head, row_lines, record_lines, widths}
use Rattle.zknow_titles.proofs.WidthTheory.{widths_append}
use Rattle.zknow_forms.specs.Forms.{AreInParts, AreOthers, FormLaws, IsToldMore}
use Rattle.zknow_forms.specs.declared.form.Form.TheVariants as forms
use Rattle.zknow_forms.specs.declared.tally.Tally.{Tally}
use Rattle.zknow_forms.proofs.FilledForm.{filled_parts, none_filled}
use Rattle.zknow_forms.proofs.HeadForm.{same_top}
use Rattle.zknow_forms.proofs.InParts.{rows_split, rows_apart, no_rows}

-- what follows of two facts that hold of a value
pub on_ok_both : {T E P Q R : Type 0} (r : Result T E) → (P → Q → R) → OnOk r P → OnOk r Q → OnOk r R
on_ok_both (Ok value) both p q = both p q
on_ok_both (Err error) both p q = tt

-- a table says this of each set
abbrev Says : Tally → (SetKey → ℕ) → Type 0
Says tally filled = (b : SetKey) → filled_at tally.filled.entries b ≡ filled b

module _ (shown : List (List ℕ)) (low high all : List Fact) (parts : AreInParts low high all) where
  module _ (extent : Extent) (w : Widths) where
    -- the lines of a row with these records
    abbrev row_with : RowKey → List Record → List (List ℕ)
    row_with k records = record_lines extent (charset_at [] k.target) w (row_head w shown k) records

    -- the lines of the rows
    abbrev all_rows : List Fact → List (List ℕ)
    all_rows facts = flat_map (row_lines extent w shown [] facts) (rows facts)

    rows_in_parts : title_rows extent w shown [] all
        ≡ title_rows extent w shown [] low ++ title_rows extent w shown [] high
    rows_in_parts =
        ap (flat_map ended_line) (rows_apart low high all parts row_with)
        ∙ flat_map-append ended_line (all_rows low) (all_rows high)

    -- without records in the first part all rows are those of the second
    rows_alone : AreOthers low → title_rows extent w shown [] all ≡ title_rows extent w shown [] high
    rows_alone none =
        rows_in_parts
        ∙ ap (λ keys. ended (flat_map (row_lines extent w shown [] low) keys) ++ title_rows extent w shown [] high)
        (no_rows low high all parts none)

  widths_in_parts : widths shown (rows all) ≡ widest (widths shown (rows low)) (widths shown (rows high))
  widths_in_parts =
      ap (widths shown) (sym (rows_split low high all parts)) ∙ widths_append shown (rows low) (rows high)

  widths_told : AreOthers low → widths shown (rows all) ≡ widths shown (rows high)
  widths_told none =
      ap (widths shown) (sym (rows_split low high all parts)
      ∙ ap (λ keys. keys ++ rows high) (no_rows low high all parts none))

  filled_told : AreOthers low → (b : SetKey) → filled_in all b ≡ filled_in high b
  filled_told none b =
      let sum = filled_parts low high all parts b in
      let zero = none_filled low none b in
      omega (arith, sum, zero)

  -- ---- what is added to a tally

  columns_more : (before after : Tally) → after.widths ≡ widest before.widths (widths shown (rows high))
      → before.widths ≡ widths shown (rows low) → after.widths ≡ widths shown (rows all)
  columns_more before after columns told =
      columns ∙ ap (λ (v : Widths). widest v (widths shown (rows high))) told ∙ sym widths_in_parts

  positions_more : (before after : Tally)
      → Says after (λ b. filled_at before.filled.entries b + filled_in high b)
      → Says before (filled_in low) → Says after (filled_in all)
  positions_more before after positions told b =
      positions b ∙ ap (λ (n : ℕ). n + filled_in high b) (told b) ∙ sym (filled_parts low high all parts b)

module _ (shown : Vec (String Global) Global) where
  -- the names
  abbrev names : List (List ℕ)
  names = map string_bytes shown.items

  module _ (extent : Extent) (w : Widths) (filled : BTreeMap SetKey ℕ) where
    pub titles_laws : (low high all : List Fact) → FormLaws (forms.Titles shown extent w filled) low high all
    titles_laws low high all = record {
      text = λ parts. rows_in_parts names low high all parts extent w;
      whole = λ parts none.
          ap (λ top. top ++ title_rows extent w names [] all)
          (same_top w (filled_at filled.entries) names low high all parts)
          ∙ ap (λ text. title_top w (filled_at filled.entries) names [] low ++ text)
          (rows_alone names low high all parts extent w none);
      told = λ parts none tally told. record {
        left = told.left;
        columns = told.columns ∙ sym (widths_told names low high all parts none);
        positions = λ b. told.positions b ∙ sym (filled_told names low high all parts none b);
      };
    }

    pub titles_more : (high : List Fact) (before after : Tally) → after.left ≡ before.left
        → after.widths ≡ widest before.widths (widths names (rows high))
        → Says after (λ b. filled_at before.filled.entries b + filled_in high b)
        → IsToldMore (forms.Titles shown extent w filled) high before after
    titles_more high before after left columns positions low all told parts = record {
      left = left ∙ told.left;
      columns = columns_more names low high all parts before after columns told.columns;
      positions = positions_more names low high all parts before after positions told.positions;
    }

  pub measures_laws : (low high all : List Fact) → FormLaws (forms.Measures shown) low high all
  measures_laws low high all = record {
    text = λ parts. refl;
    whole = λ parts none. refl;
    told = λ parts none tally told. record {
      left = told.left;
      columns = told.columns ∙ sym (widths_told names low high all parts none);
      positions = λ b. told.positions b ∙ sym (filled_told names low high all parts none b);
    };
  }

  pub measures_more : (high : List Fact) (before after : Tally) → after.left ≡ before.left
      → after.widths ≡ widest before.widths (widths names (rows high))
      → Says after (λ b. filled_at before.filled.entries b + filled_in high b)
      → IsToldMore (forms.Measures shown) high before after
  measures_more high before after left columns positions low all told parts = record {
    left = left ∙ told.left;
    columns = columns_more names low high all parts before after columns told.columns;
    positions = positions_more names low high all parts before after positions told.positions;
  }
