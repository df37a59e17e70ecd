use Rattle.zknow_titles.proofs.NameTheory.{names_have_columns}
use Rattle.zknow_titles.proofs.laws.names_law.Goals as goal

pub returns : goal.returns
returns c = names_have_columns
