use Rattle.zoom_pool.specs.Transcripts.{InputEnded}
use Rattle.zoom_sim.proofs.RunSilentSteps.{goes_trans, recorded_silent}
use Rattle.zoom_sim.proofs.RunTakes.{ended_take}
use Rattle.zoom_sim.proofs.drives.end_taken.Goals as goal

pub returns-clause-silent : goal.returns-clause-silent
returns-clause-silent c =
    goes_trans c.args.meta.now c.end.new.self c.take_one.new.meta
    (recorded_silent c.args.c InputEnded c.args.meta.now c.end.new.self tt c.end.ensures.after)
    c.in_ok-take_one.ensures.silent

pub returns-clause-ends : goal.returns-clause-ends
returns-clause-ends c =
    ended_take c.args.c c.in_ok-take_one.field-0 c.args.meta.now c.end.new.self c.take_one.new.meta c.end.ensures.after
    c.in_ok-take_one.ensures.at

pub returns-clause-own : goal.returns-clause-own
returns-clause-own c = record {
  ended = c.end.new.self;
  ends = c.end.ensures.after;
  driven = c.in_ok-take_one.ensures.own;
}
