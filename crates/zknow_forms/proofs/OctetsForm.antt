-- The octets of records, and what is left out of them, in parts.
use Rattle.std.proofs.Common.{◌≡◌, ℕ, Bool, true, false, List, [], Option, None, refl, sym, ap, ◌∙◌, arith}
use Rattle.std.specs.Prelude.{if◌then◌else◌}
use Rattle.std.specs.List.{flat_map, count_by}
use Rattle.zknow.specs.declared.fact.Fact.{Fact}
use Rattle.zknow.specs.declared.tables.keys.RowKey.{RowKey}
use Rattle.zknow_records.specs.Parts.{left_sum}
use Rattle.zknow_records.specs.Records.{is_unwanted, is_diagnostic, is_other, is_conflict, taken, row_records, left_out}
use Rattle.zknow_records.specs.declared.left_out.LeftOut.{LeftOut}
use Rattle.zknow_records.proofs.PartTheory.{octets_in_parts, left_in_parts}
use Rattle.zknow_records.proofs.Taking.{same_left}
use Rattle.zknow_titles.specs.Blocks.{filled_at}
use Rattle.zknow_forms.specs.Forms.{none_left, AreInParts, AreOthers, FormLaws, EmptyLaws, IsToldMore}
use Rattle.zknow_forms.specs.declared.form.Form.TheVariants as forms
use Rattle.zknow_forms.specs.declared.tally.Tally.{Tally}
use Rattle.zknow_forms.proofs.InParts.{record_parts, rows_none}

-- what is left out of these rows
abbrev left_of : Option (List ℕ) → Bool → List Fact → List RowKey → LeftOut
left_of syntax conflicts facts keys =
    record {
      conflicts = if conflicts then 0 else count_by (λ k. is_conflict (row_records facts k)) keys;
      syntaxes = count_by (is_unwanted syntax) (flat_map (λ k. taken None conflicts (row_records facts k)) keys);
      diagnostics = count_by is_diagnostic (flat_map (λ k. taken syntax conflicts (row_records facts k)) keys);
      others = count_by is_other (flat_map (λ k. taken syntax conflicts (row_records facts k)) keys);
    }

-- nothing is left out of no rows
nothing_left : (syntax : Option (List ℕ)) (conflicts : Bool) (facts : List Fact)
    → left_of syntax conflicts facts [] ≡ none_left
nothing_left syntax true facts = refl
nothing_left syntax false facts = refl

none_more : (left : LeftOut) → left_sum none_left left ≡ left
none_more left = same_left _ _ _ _ left.conflicts left.syntaxes left.diagnostics left.others
    (omega arith) (omega arith) (omega arith) (omega arith)

module _ (syntax : Option (List ℕ)) (conflicts : Bool) where
  none_left_out : (facts : List Fact) → AreOthers facts → left_out syntax conflicts facts ≡ none_left
  none_left_out facts none =
      ap (left_of syntax conflicts facts) (rows_none facts none) ∙ nothing_left syntax conflicts facts

  module _ (low high all : List Fact) where
    left_told : AreInParts low high all → AreOthers low
        → left_out syntax conflicts all ≡ left_out syntax conflicts high
    left_told parts none =
        left_in_parts syntax conflicts low high all (record_parts low high all parts)
        ∙ ap (λ left. left_sum left (left_out syntax conflicts high)) (none_left_out low none)
        ∙ none_more (left_out syntax conflicts high)

    pub octets_laws : FormLaws (forms.Octets syntax conflicts) low high all
    octets_laws = record {
      text = λ parts. octets_in_parts syntax conflicts low high all (record_parts low high all parts);
      whole = λ parts none. octets_in_parts syntax conflicts low high all (record_parts low high all parts);
      told = λ parts none tally told. record {
        left = told.left ∙ sym (left_told parts none);
        columns = told.columns;
        positions = told.positions;
      };
    }

  pub octets_empty : EmptyLaws (forms.Octets syntax conflicts)
  octets_empty = record { text = refl }

  -- nothing is left out of no facts
  pub octets_told : left_out syntax conflicts [] ≡ none_left
  octets_told = nothing_left syntax conflicts []

  -- a tally to which what is left out was added tells of more facts
  pub octets_more : (high : List Fact) (before after : Tally)
      → after.left ≡ left_sum before.left (left_out syntax conflicts high) → after.widths ≡ before.widths
      → after.filled ≡ before.filled → IsToldMore (forms.Octets syntax conflicts) high before after
  octets_more high before after left columns filled low all told parts =
      record {
        left = left ∙ ap (λ (l : LeftOut). left_sum l (left_out syntax conflicts high)) told.left
            ∙ sym (left_in_parts syntax conflicts low high all (record_parts low high all parts));
        columns = columns ∙ told.columns;
        positions = λ b. ap (λ table. filled_at table.entries b) filled ∙ told.positions b;
      }
