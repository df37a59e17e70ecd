use Rattle.std.proofs.Common.{sym, ap, ◌∙◌}
use Rattle.std.specs.Option.{option_copied}
use Rattle.zmarc.specs.Isbns.{isbn_of_field}
use Rattle.zmarc.proofs.BriefTheory.{given_now, given_later, given_end}
use Rattle.zmarc.proofs.isbn.find_isbn_of_fields.Goals as goal

pub loop-field-preserved : goal.loop-field-preserved
loop-field-preserved c =
    let at = c.loop-field in
    let none = sym c.find_isbn_of_field.ensures ∙ ap option_copied c.in_default.is in
    sym (given_later isbn_of_field c.args.fields.now at.field-index _ c.loop-field-test.true none) ∙ at.invariant

pub returns-in-Some : goal.returns-in-Some
returns-in-Some c =
    let at = c.loop-field in
    let some = sym c.find_isbn_of_field.ensures ∙ ap option_copied c.in-Some.is in
    sym (given_now isbn_of_field c.args.fields.now at.field-index _ _ c.loop-field-test.true some) ∙ at.invariant

pub returns : goal.returns
returns c =
    sym (given_end isbn_of_field c.args.fields.now c.loop-field.field-index c.loop-field-test.false) ∙ c.loop-field.invariant
