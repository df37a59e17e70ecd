use Rattle.std.proofs.Common.{map, string_bytes, refl, sym, ap, subst, ◌∙◌}
use Rattle.zknow_records.specs.Parts.{left_sum}
use Rattle.zknow_records.specs.Records.{left_out}
use Rattle.zknow_records.specs.declared.left_out.LeftOut.{LeftOut}
use Rattle.zknow_titles.specs.Parts.{widest}
use Rattle.zknow_titles.specs.Rows.{widths}
use Rattle.zknow_titles.specs.Titles.{rows_of}
use Rattle.zknow_forms.specs.Forms.{IsToldMore}
use Rattle.zknow_forms.specs.declared.tally.Tally.{Tally}
use Rattle.zknow_forms.proofs.OctetsForm.{octets_more}
use Rattle.zknow_forms.proofs.TitlesForm.{on_ok_both, titles_more, measures_more}
use Rattle.zknow_forms.proofs.form.Form.write.Goals as goal

pub returns-in_ok-tally-in-Octets-clause-told : goal.returns-in_ok-tally-in-Octets-clause-told
returns-in_ok-tally-in-Octets-clause-told c =
    let before : Tally = c.args.tally.now in
    let after : Tally =
    record { left = c.in_ok-tally-in-Octets.field-0; widths = before.widths; filled = before.filled } in
    let facts = c.args.knowledge.now in
    subst (λ form. IsToldMore form facts before after) (sym c.in-Octets.is)
    (octets_more c.in-Octets.syntax c.in-Octets.conflicts facts before after
    (c.in_ok-tally-in-Octets.ensures
    ∙ ap (λ (left : LeftOut). left_sum before.left left)
    (c.in_ok-left-in-Octets.ensures.left
    ∙ ap (λ s. left_out s c.in-Octets.conflicts facts) c.as_ref.ensures.value))
    refl refl)

pub returns-in_ok-print_title_rows-in-Titles-clause-told : goal.returns-in_ok-print_title_rows-in-Titles-clause-told
returns-in_ok-print_title_rows-in-Titles-clause-told c =
    let before : Tally = c.args.tally.now in
    let after : Tally = c.measure.new.tally in
    let facts = c.args.knowledge.now in
    on_ok_both c.measure.result
    (λ columns positions. subst (λ form. IsToldMore form facts before after) (sym c.in-Titles.is)
    (titles_more c.in-Titles.shown c.in-Titles.extent c.in-Titles.widths c.in-Titles.filled facts before after
    c.measure.ensures.left
    (columns ∙ ap (λ names. widest before.widths (widths (map string_bytes names) (rows_of facts)))
    c.deref-in-Titles.ensures.value)
    positions))
    c.measure.ensures.columns c.measure.ensures.positions

pub returns-in-Measures-clause-told : goal.returns-in-Measures-clause-told
returns-in-Measures-clause-told c =
    let before : Tally = c.args.tally.now in
    let after : Tally = c.measure-in-Measures.new.tally in
    let facts = c.args.knowledge.now in
    on_ok_both c.measure-in-Measures.result
    (λ columns positions. subst (λ form. IsToldMore form facts before after) (sym c.in-Measures.is)
    (measures_more c.in-Measures.shown facts before after c.measure-in-Measures.ensures.left
    (columns ∙ ap (λ names. widest before.widths (widths (map string_bytes names) (rows_of facts)))
    c.deref-in-Measures.ensures.value)
    positions))
    c.measure-in-Measures.ensures.columns c.measure-in-Measures.ensures.positions
