use Rattle.zknow_html.proofs.PageTheory.{change_page_has_rows}
use Rattle.zknow_html.proofs.laws.change_rows_law.Goals as goal

pub returns : goal.returns
returns c = change_page_has_rows
