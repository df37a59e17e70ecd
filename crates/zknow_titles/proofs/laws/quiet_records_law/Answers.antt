use Rattle.zknow_titles.proofs.HeadTheory.{quiet_records}
use Rattle.zknow_titles.proofs.laws.quiet_records_law.Goals as goal

pub returns : goal.returns
returns c = quiet_records
