use Rattle.zplan.proofs.Runs.{asked_run}
use Rattle.zplan.proofs.laws.run_law.Goals as goal

pub returns : goal.returns
returns c = asked_run
