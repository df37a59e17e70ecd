use Rattle.zknow_runs.proofs.RunTheory.{finished_none, finished_some}
use Rattle.zknow_runs.proofs.run.RunList.finish.Goals as goal

pub returns-in_ok-push-in-Some : goal.returns-in_ok-push-in-Some
returns-in_ok-push-in-Some c =
    finished_some c.args.self c.in-Some.reached _ c.in-Some.is c.in_ok-push-in-Some.ensures.items

pub returns-in-None : goal.returns-in-None
returns-in-None c = finished_none c.args.self c.in-None.is
