use Rattle.std.proofs.Common.{◌∙◌, ◌<◌, length, refl, rules}
use Rattle.zoom_sim.specs.RunMoves.{none_made}
use Rattle.zoom_sim.proofs.RunWorlds.{same_world, world_trans}
use Rattle.zoom_sim.proofs.RunMoves.{made_more}
use Rattle.zoom_sim.proofs.rounds.make_moves.Goals as goal

pub loop-step-init : goal.loop-step-init
loop-step-init g c = (
  same_world c.args.meta.now c.args.peers.now,
  refl,
  λ sure. record { on = λ questions s targets w. w },
  none_made,
)

pub loop-step-preserved : goal.loop-step-preserved
loop-step-preserved g c =
    let at = c.loop-step in
    let lt : at.step-index < length c.args.moves.now = search rules in (
      world_trans c.args.meta.now at.meta c.make_move.new.meta c.args.peers.now at.peers c.make_move.new.peers
          at.invariant.0 c.in_ok-make_move.ensures.goes,
      c.make_move.ensures.size ∙ at.invariant.1,
      λ sure. record {
        on = λ questions s targets w.
            (c.in_ok-make_move.ensures.stays sure).on questions s targets
            ((at.invariant.2 sure).on questions s targets w);
      },
      made_more g.W.Channel.carries_to g.W.Channel.carries_from g.W.Channel.fails c.args.channel.now at.channel
          c.make_move.new.channel c.args.meta.now at.meta c.make_move.new.meta c.args.peers.now at.peers
          c.make_move.new.peers c.args.moves.now at.step-index _ lt at.invariant.3 c.in_ok-make_move.ensures.moved,
    )
