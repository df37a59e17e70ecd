use Rattle.zknow_titles.proofs.WidthTheory.{widths_append}
use Rattle.zknow_titles.proofs.laws.widths_law.Goals as goal

pub returns : goal.returns
returns c = widths_append
