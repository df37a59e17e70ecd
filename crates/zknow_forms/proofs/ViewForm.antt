-- The view for readers, in columns that are told.
use Rattle.std.proofs.Common.{◌≡◌, ◌↔◌, ℕ, List, [], ◌++◌, sym, ap, ◌∙◌}
use Rattle.std.specs.BTreeMap.{BTreeMap}
use Rattle.std.specs.Prelude.{String, Vec, map, string_bytes}
use Rattle.std.specs.declared.alloc.Global.{Global}
use Rattle.zknow.specs.declared.fact.Fact.{Fact}
use Rattle.zknow.specs.declared.tables.keys.SetKey.{SetKey}
use Rattle.zknow_titles.specs.declared.rows.Widths.{Widths}
use Rattle.zknow_titles.specs.declared.wholes.Extent.{Extent}
use Rattle.zknow_titles.specs.Blocks.{filled_at}
use Rattle.zknow_titles.specs.Names.{shown_names}
use Rattle.zknow_titles.specs.Parts.{title_rows, title_top}
use Rattle.zknow_titles.specs.Rows.{widths}
use Rattle.zknow_titles.specs.Titles.{rows_of, view}
use Rattle.zknow_titles.proofs.PartTheory.{title_parts}
use Rattle.zknow_forms.specs.Forms.{IsTold, IsAsTold, AllViewLaws, whole_text}
use Rattle.zknow_forms.specs.declared.form.Form.TheVariants as forms
use Rattle.zknow_forms.specs.declared.tally.Tally.{Tally}

module _ (shown : Vec (String Global) Global) (extent : Extent) (w : Widths) (filled : BTreeMap SetKey ℕ)
    (facts : List Fact) (tally : Tally) where
  measured_told : IsTold (forms.Measures shown) facts tally ↔ IsTold (forms.Titles shown extent w filled) facts tally
  measured_told = (
    λ told. record { left = told.left; columns = told.columns; positions = told.positions },
    λ told. record { left = told.left; columns = told.columns; positions = told.positions },
  )

  -- both parts of the view, with these names
  abbrev parts_with : List (List ℕ) → List ℕ
  parts_with names = title_top w (filled_at filled.entries) names [] facts ++ title_rows extent w names [] facts

  whole_view : (names : List (List ℕ)) → map string_bytes shown.items ≡ shown_names names
      → IsTold (forms.Titles shown extent w filled) facts tally
      → IsAsTold (forms.Titles shown extent w filled) tally
      → whole_text (forms.Titles shown extent w filled) facts ≡ view extent names [] [] facts
  whole_view names same told as_told =
      ap parts_with same
      ∙ sym ((title_parts extent names [] [] facts w (filled_at filled.entries)).both
      (ap (λ texts. widths texts (rows_of facts)) (sym same) ∙ sym told.columns ∙ sym as_told.0)
      (λ b. sym (told.positions b) ∙ ap (λ entries. filled_at entries b) (sym as_told.1)))

pub view_laws_hold : AllViewLaws
view_laws_hold shown extent w filled facts tally = record {
  measured = measured_told shown extent w filled facts tally;
  text = whole_view shown extent w filled facts tally;
}
