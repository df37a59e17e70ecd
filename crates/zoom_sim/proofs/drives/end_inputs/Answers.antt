use Rattle.std.proofs.Common.{◌∙◌, rules}
use Rattle.zoom_sim.specs.RunMade.{none_yet, one_more}
use Rattle.zoom_sim.proofs.RunSilentSteps.{goes_trans}
use Rattle.zoom_sim.proofs.RunUnfinished.{spares_trans}
use Rattle.zoom_sim.proofs.drives.end_inputs.Goals as goal

pub loop-c-preserved : goal.loop-c-preserved
loop-c-preserved c = (
  goes_trans c.args.meta.now c.loop-c.meta c.end_input.new.meta c.loop-c.invariant.0 c.in_ok-end_input.ensures.silent,
  spares_trans c.args.meta.now c.loop-c.meta c.end_input.new.meta c.loop-c.invariant.1
      c.in_ok-end_input.ensures.unfinished_only,
  c.end_input.ensures.size ∙ c.loop-c.invariant.2,
  one_more c.loop-c.invariant.3 c.in_ok-end_input.ensures.own,
)

pub loop-c-init : goal.loop-c-init
loop-c-init c = search (rules, none_yet)
