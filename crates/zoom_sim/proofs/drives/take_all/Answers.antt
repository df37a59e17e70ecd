use Rattle.std.proofs.Common.{◌∙◌, ◌<◌, subst, sym, refl, arith}
use Rattle.zoom_sim.specs.RunSound.{TakeOneStep}
use Rattle.zoom_sim.proofs.RunSilentSteps.{goes_same, goes_trans}
use Rattle.zoom_sim.proofs.RunMoves.{driven_same, driven_trans}
use Rattle.zoom_sim.proofs.RunTakeAll.{take_steps_none, take_steps_more, take_steps_adds, take_steps_end, take_steps_out}
use Rattle.zoom_sim.proofs.drives.take_all.Goals as goal

pub loop-count-init : goal.loop-count-init
loop-count-init c = (
  goes_same c.args.meta.now,
  take_steps_none c.args.c c.args.meta.now,
  refl,
  driven_same c.args.c c.args.meta.now,
)

pub returns-then-not-branch-clause-silent : goal.returns-then-not-branch-clause-silent
returns-then-not-branch-clause-silent c =
    goes_trans c.args.meta.now c.loop-count.meta c.take_one.new.meta c.loop-count.invariant.0 c.in_ok-take_one.ensures.silent

pub returns-then-not-branch-clause-all : goal.returns-then-not-branch-clause-all
returns-then-not-branch-clause-all c =
    take_steps_end c.exchange_laws.ensures c.take_laws.ensures c.one_transcript.ensures c.args.c c.loop-count._count
    c.args.meta.now c.loop-count.meta c.loop-count.invariant.1 c.take_one.new.meta
    (subst (λ n. c.args.c < n) (sym c.loop-count.invariant.2) c.requires)
    (subst (λ b. TakeOneStep c.args.c b c.loop-count.meta c.take_one.new.meta) c.if-not-branch.true
    c.in_ok-take_one.ensures.at)

pub returns-then-not-branch-clause-adds : goal.returns-then-not-branch-clause-adds
returns-then-not-branch-clause-adds c =
    take_steps_adds c.exchange_laws.ensures c.take_laws.ensures c.one_transcript.ensures c.args.c c.loop-count._count
    c.args.meta.now c.loop-count.meta c.loop-count.invariant.1 c.in_ok-take_one.field-0 c.take_one.new.meta
    (subst (λ n. c.args.c < n) (sym c.loop-count.invariant.2) c.requires) c.in_ok-take_one.ensures.at

pub loop-count-preserved : goal.loop-count-preserved
loop-count-preserved c = (
  goes_trans c.args.meta.now c.take_one.new.meta c.drive.new.meta
      (goes_trans c.args.meta.now c.loop-count.meta c.take_one.new.meta c.loop-count.invariant.0
      c.in_ok-take_one.ensures.silent) c.in_ok-drive.ensures.silent,
  take_steps_more c.exchange_laws.ensures c.take_laws.ensures c.one_transcript.ensures c.args.c c.loop-count._count
      c.args.meta.now c.loop-count.meta c.loop-count.invariant.1 c.take_one.new.meta c.drive.new.meta
      (subst (λ n. c.args.c < n) (sym c.loop-count.invariant.2) c.requires)
      (subst (λ b. TakeOneStep c.args.c b c.loop-count.meta c.take_one.new.meta) c.if-not-branch.false
      c.in_ok-take_one.ensures.at) c.in_ok-drive.ensures.at,
  c.drive.ensures.size ∙ c.take_one.ensures.size ∙ c.loop-count.invariant.2,
  driven_trans c.args.c c.args.meta.now c.take_one.new.meta c.drive.new.meta
      (driven_trans c.args.c c.args.meta.now c.loop-count.meta c.take_one.new.meta c.loop-count.invariant.3
      c.in_ok-take_one.ensures.own) c.in_ok-drive.ensures.own,
)

pub returns-clause-silent : goal.returns-clause-silent
returns-clause-silent c = c.loop-count.invariant.0

pub returns-clause-all : goal.returns-clause-all
returns-clause-all c =
    let many : 1000003 < c.loop-count._count = omega (arith, c.loop-count-test.false) in
    take_steps_out c.exchange_laws.ensures c.args.c c.loop-count._count c.args.meta.now c.loop-count.meta many
    c.loop-count.invariant.1

pub returns-clause-adds : goal.returns-clause-adds
returns-clause-adds c = c.loop-count.invariant.1.adds

pub returns-then-not-branch-clause-own : goal.returns-then-not-branch-clause-own
returns-then-not-branch-clause-own c =
    driven_trans c.args.c c.args.meta.now c.loop-count.meta c.take_one.new.meta c.loop-count.invariant.3
    c.in_ok-take_one.ensures.own

pub returns-clause-own : goal.returns-clause-own
returns-clause-own c = c.loop-count.invariant.3
