use Rattle.zknow_html.proofs.PageTheory.{page_is_document}
use Rattle.zknow_html.proofs.laws.page_law.Goals as goal

pub returns : goal.returns
returns c = page_is_document
