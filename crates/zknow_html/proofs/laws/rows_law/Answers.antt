use Rattle.zknow_html.proofs.PageTheory.{page_has_rows}
use Rattle.zknow_html.proofs.laws.rows_law.Goals as goal

pub returns : goal.returns
returns c = page_has_rows
