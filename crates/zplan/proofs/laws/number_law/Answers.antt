use Rattle.zplan.proofs.Steps.{number_once}
use Rattle.zplan.proofs.laws.number_law.Goals as goal

pub returns : goal.returns
returns c = number_once
