use Rattle.zknow_titles.proofs.HeadTheory.{quiet_view}
use Rattle.zknow_titles.proofs.laws.quiet_law.Goals as goal

pub returns : goal.returns
returns c = quiet_view
