use Rattle.std.proofs.Common.{◌∙◌, rules}
use Rattle.zoom_sim.specs.RunMade.{none_yet, one_more}
use Rattle.zoom_sim.proofs.RunStops.{halts_more}
use Rattle.zoom_sim.proofs.RunUnfinished.{spares_trans}
use Rattle.zoom_sim.proofs.drives.stop_all.Goals as goal

pub loop-c-preserved : goal.loop-c-preserved
loop-c-preserved c = (
  halts_more c.loop-c.c c.args.meta.now c.loop-c.meta c.stop.new.meta c.loop-c.invariant.0 c.stop.ensures.after,
  spares_trans c.args.meta.now c.loop-c.meta c.stop.new.meta c.loop-c.invariant.1 c.stop.ensures.unfinished_only,
  c.stop.ensures.size ∙ c.loop-c.invariant.2,
  one_more c.loop-c.invariant.3 c.stop.ensures.own,
)

pub loop-c-init : goal.loop-c-init
loop-c-init c = search (rules, none_yet)
