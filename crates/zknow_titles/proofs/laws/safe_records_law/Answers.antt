use Rattle.zknow_titles.proofs.SafeTheory.{records_are_safe}
use Rattle.zknow_titles.proofs.laws.safe_records_law.Goals as goal

pub returns : goal.returns
returns c = records_are_safe
