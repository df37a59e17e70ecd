use Rattle.zorigin.proofs.Orderly.{orderly}
use Rattle.zorigin.proofs.laws.orderly_logs.Goals as goal

pub returns : goal.returns
returns c = orderly
