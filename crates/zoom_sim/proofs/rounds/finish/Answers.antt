use Rattle.std.proofs.Common.{true, ◌≤◌, ◌∙◌, inl, inr, subst, refl, rules, arith}
use Rattle.zoom_pool.specs.Metas.{IsFinishedUpTo}
use Rattle.zoom_pool.proofs.Advancing.{finished_after}
use Rattle.zoom_sim.specs.RunMade.{no_round, one_round, most_rounds}
use Rattle.zoom_sim.proofs.RunStops.{finished_halts}
use Rattle.zoom_sim.proofs.RunUnfinished.{spares_trans}
use Rattle.zoom_sim.proofs.RunFinishes.{grown_more, finished_whole, most_whole}
use Rattle.zoom_sim.proofs.RunWorlds.{same_world, goes_world, halts_ends, world_ends, world_trans}
use Rattle.zoom_sim.proofs.rounds.finish.Goals as goal

pub loop-init : goal.loop-init
loop-init g c = (same_world c.args.meta.now c.args.peers.now, refl, search rules, no_round)

pub returns-then-finished-clause-ends : goal.returns-then-finished-clause-ends
returns-then-finished-clause-ends g c =
    let meta = c.loop.meta in
    world_ends c.args.meta.now meta meta c.args.peers.now c.loop.peers c.loop.invariant.0
    (halts_ends meta meta c.loop.peers (finished_halts meta
    (finished_after meta true (subst (IsFinishedUpTo meta) c.if-finished.true c.finished.ensures))))

pub returns-then-finished-clause-whole : goal.returns-then-finished-clause-whole
returns-then-finished-clause-whole g c = λ sure.
    finished_whole c.exchange_laws.ensures c.loop.counter c.args.meta.now c.loop.meta c.args.peers.now c.loop.peers
    (c.loop.invariant.2 sure)
    (finished_after c.loop.meta true (subst (IsFinishedUpTo c.loop.meta) c.if-finished.true c.finished.ensures))

pub loop-preserved : goal.loop-preserved
loop-preserved g c = (
  world_trans c.args.meta.now c.loop.meta c.go_on.new.meta c.args.peers.now c.loop.peers c.go_on.new.peers
      c.loop.invariant.0 c.in_ok-go_on.ensures.goes,
  c.in_ok-go_on.ensures.size ∙ c.loop.invariant.1,
  λ sure. grown_more c.loop.counter c.args.meta.now c.loop.meta c.go_on.new.meta c.args.peers.now c.loop.peers
      c.go_on.new.peers (c.loop.invariant.2 sure) (c.in_ok-go_on.ensures.grows sure),
  one_round c.loop.invariant.3 (subst (IsFinishedUpTo c.loop.meta) c.if-finished.false c.finished.ensures)
      c.in_ok-go_on.ensures.own,
)

pub returns-clause-ends : goal.returns-clause-ends
returns-clause-ends g c =
    let ended = c.end_inputs.new.meta in
    world_ends c.args.meta.now ended c.stop_all.new.meta c.args.peers.now c.loop.peers
    (world_trans c.args.meta.now c.loop.meta ended c.args.peers.now c.loop.peers c.loop.peers c.loop.invariant.0
    (goes_world c.loop.meta ended c.loop.peers c.in_ok-end_inputs.ensures.silent))
    (halts_ends ended c.stop_all.new.meta c.loop.peers c.stop_all.ensures.after)

pub returns-clause-whole : goal.returns-clause-whole
returns-clause-whole g c = λ sure.
    most_whole c.exchange_laws.ensures c.one_transcript.ensures c.loop.counter c.args.meta.now c.loop.meta
    c.stop_all.new.meta c.args.peers.now c.loop.peers (c.loop.invariant.2 sure) (omega (arith, c.loop-test.false))
    (spares_trans c.loop.meta c.end_inputs.new.meta c.stop_all.new.meta
    c.in_ok-end_inputs.ensures.unfinished_only c.stop_all.ensures.unfinished_only)

pub returns-then-finished-clause-own : goal.returns-then-finished-clause-own
returns-then-finished-clause-own g c = record {
  count = c.loop.counter;
  meta = c.loop.meta;
  rounds = c.loop.invariant.3;
  last = inl (refl, subst (IsFinishedUpTo c.loop.meta) c.if-finished.true c.finished.ensures);
}

pub returns-clause-own : goal.returns-clause-own
returns-clause-own g c =
    let most : most_rounds ≤ c.loop.counter = omega (arith, c.loop-test.false) in
    record {
      count = c.loop.counter;
      meta = c.loop.meta;
      rounds = c.loop.invariant.3;
      last = inr (record {
        most = most;
        ended = c.end_inputs.new.meta;
        ends = c.in_ok-end_inputs.ensures.own;
        stops = c.stop_all.ensures.own;
      });
    }
