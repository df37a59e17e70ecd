use Rattle.std.proofs.Common.{refl}
use Rattle.zplan.proofs.laws.row_laws.Goals as goal

pub returns : goal.returns
returns c = record { with_three = refl; without_three = refl; second = refl }
