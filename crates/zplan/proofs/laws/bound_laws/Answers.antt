use Rattle.zplan.proofs.Steps.{few, presents_few}
use Rattle.zplan.proofs.Shorts.{asked_short, asked_found}
use Rattle.zplan.proofs.laws.bound_laws.Goals as goal

pub returns : goal.returns
returns c = record { requests = few; presents = presents_few; lists = asked_short; found = asked_found }
