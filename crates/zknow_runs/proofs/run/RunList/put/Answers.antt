use Rattle.zknow_runs.proofs.RunTheory.{first_put}
use Rattle.zknow_runs.proofs.run.RunList.put.Goals as goal

pub returns-in-None-clause-ok : goal.returns-in-None-clause-ok
returns-in-None-clause-ok c = first_put c.args.self.now c.args.one c.in-None.is
