use Rattle.zoom_pool.specs.Transcripts.{Stopped}
use Rattle.zoom_sim.proofs.RunSilentSteps.{recorded_silent}
use Rattle.zoom_sim.proofs.drives.stop_for.Goals as goal

pub returns-in-Some-clause-silent : goal.returns-in-Some-clause-silent
returns-in-Some-clause-silent c =
    recorded_silent c.args.c (Stopped c.in-Some.reason) c.args.meta.now c.stop.new.self tt c.stop.ensures.after
