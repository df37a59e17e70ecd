use Rattle.std.proofs.Common.{◌≡◌, ◌∙◌, sym, true}
use Rattle.zquery.specs.Notation.Printing.{printable}
use Rattle.zquery.proofs.NotationTheory.PrintedTexts.{printed-reads}
use Rattle.zquery.proofs.notation.print.print_pqf.Goals as goal

pub returns-clause-reads : goal.returns-clause-reads
returns-clause-reads c =
    let yes : c.in_ok-is_printable.field-0 ≡ true = c.if-not-branch.false in
    let ok : printable c.args.query.now ≡ true = sym c.in_ok-is_printable.ensures.value ∙ yes in
    printed-reads c.args.query.now (record { attr_set = c.in_ok-put_query.ensures.oid; root = c.in_ok-is_printable.ensures.lawful yes }) ok
