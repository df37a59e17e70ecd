use Rattle.zknow_html.proofs.PageTheory.{page_is_document, page_has_rows}
use Rattle.zknow_html.proofs.page.print_html.Goals as goal

pub returns-in_err-text-clause-document : goal.returns-in_err-text-clause-document
returns-in_err-text-clause-document c =
    page_is_document c.args.heading.now c.args.names.now c.args.charsets.now c.args.stops.now c.args.knowledge.now

pub returns-in_err-text-clause-rows : goal.returns-in_err-text-clause-rows
returns-in_err-text-clause-rows c =
    page_has_rows c.args.heading.now c.args.names.now c.args.charsets.now c.args.stops.now c.args.knowledge.now

pub returns-clause-document : goal.returns-clause-document
returns-clause-document c =
    page_is_document c.args.heading.now c.args.names.now c.args.charsets.now c.args.stops.now c.args.knowledge.now

pub returns-clause-rows : goal.returns-clause-rows
returns-clause-rows c =
    page_has_rows c.args.heading.now c.args.names.now c.args.charsets.now c.args.stops.now c.args.knowledge.now
