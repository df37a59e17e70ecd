use Rattle.std.proofs.Common.{◌∙◌, refl}
use Rattle.zoom_sim.specs.RunMade.{none_yet, one_more}
use Rattle.zoom_sim.proofs.RunSilentSteps.{goes_same, goes_trans}
use Rattle.zoom_sim.proofs.RunStarts.{starts_none, starts_more}
use Rattle.zoom_sim.proofs.drives.drive_all.Goals as goal

pub loop-c-init : goal.loop-c-init
loop-c-init c = (goes_same c.args.meta.now, starts_none c.args.meta.now, refl, none_yet)

pub loop-c-preserved : goal.loop-c-preserved
loop-c-preserved c = (
  goes_trans c.args.meta.now c.loop-c.meta c.drive.new.meta c.loop-c.invariant.0 c.in_ok-drive.ensures.silent,
  starts_more c.exchange_laws.ensures c.take_laws.ensures c.one_transcript.ensures c.loop-c.c c.args.meta.now c.loop-c.meta
      c.drive.new.meta c.loop-c.invariant.1 c.in_ok-drive.ensures.at,
  c.drive.ensures.size ∙ c.loop-c.invariant.2,
  one_more c.loop-c.invariant.3 c.in_ok-drive.ensures.own,
)
