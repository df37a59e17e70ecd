use Rattle.zknow_titles.proofs.SafeTheory.{view_is_safe}
use Rattle.zknow_titles.proofs.laws.safe_law.Goals as goal

pub returns : goal.returns
returns c = view_is_safe
