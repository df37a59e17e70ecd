use Rattle.zmeta_offline.proofs.SameViewing.{same_view}
use Rattle.zmeta_offline.proofs.laws.same_view_law.Goals as goal

pub returns : goal.returns
returns c = same_view
