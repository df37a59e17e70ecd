use Rattle.std.proofs.Common.{◌∙◌, refl, rules, arith}
use Rattle.std.specs.Prelude.{◌||◌}
use Rattle.zoom_sim.specs.RunMade.{none_rounded, one_rounded}
use Rattle.zoom_sim.proofs.RunMade.{round_made}
use Rattle.zoom_sim.proofs.RunRounds.{round_all, round_more, or_left, or_right}
use Rattle.zoom_sim.proofs.RunWorlds.{same_world, step_world, world_trans}
use Rattle.zoom_sim.proofs.rounds.go_round.Goals as goal

pub loop-c-init : goal.loop-c-init
loop-c-init g c = (same_world c.args.meta.now c.args.peers.now, refl, search rules, none_rounded)

pub loop-c-preserved : goal.loop-c-preserved
loop-c-preserved g c = (
  world_trans c.args.meta.now c.loop-c.meta c.go_round.new.meta c.args.peers.now c.loop-c.peers _ c.loop-c.invariant.0
      (step_world c.loop-c.c c.loop-c.meta c.go_round.new.meta c.loop-c.peers c.index-peers-c.result c.go_round.new.self
      (omega arith) c.in_ok-moved.ensures.carries),
  c.go_round.ensures.size ∙ c.loop-c.invariant.1,
  λ sure. round_more c.one_transcript.ensures c.loop-c.any c.in_ok-moved.moved
      (c.loop-c.any || c.in_ok-moved.moved) c.args.meta.now c.loop-c.meta c.go_round.new.meta c.args.peers.now
      c.loop-c.peers c.loop-c.c c.index-peers-c.result c.go_round.new.self (omega arith)
      (or_right c.loop-c.any c.in_ok-moved.moved) (or_left c.loop-c.any c.in_ok-moved.moved)
      (c.loop-c.invariant.2 sure) (c.in_ok-moved.ensures.rounds sure),
  one_rounded c.loop-c.invariant.3 (round_made g.W.Channel.carries_to g.W.Channel.carries_from g.W.Channel.fails
      c.loop-c.c c.in_ok-moved.moved c.loop-c.channel c.go_round.new.channel c.loop-c.meta c.go_round.new.meta
      c.loop-c.peers c.index-peers-c.result c.go_round.new.self (omega arith) c.in_ok-moved.ensures.moved),
)

pub returns-clause-rounds : goal.returns-clause-rounds
returns-clause-rounds g c = λ sure.
    round_all c.loop-c.c c.loop-c.any c.args.meta.now c.loop-c.meta c.args.peers.now c.loop-c.peers
    (omega (arith, c.loop-c-test.false)) (c.loop-c.invariant.2 sure)
