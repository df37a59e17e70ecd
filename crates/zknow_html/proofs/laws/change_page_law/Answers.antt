use Rattle.zknow_html.proofs.PageTheory.{changes_are_document}
use Rattle.zknow_html.proofs.laws.change_page_law.Goals as goal

pub returns : goal.returns
returns c = changes_are_document
