use Rattle.zplan.proofs.Steps.{shown_all, shown_only}
use Rattle.zplan.proofs.laws.shown_laws.Goals as goal

pub returns : goal.returns
returns c = record { all = shown_all; only = shown_only }
