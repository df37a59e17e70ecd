use Rattle.std.proofs.Common.{subst}
use Rattle.std.proofs.lemmas.Result.{IfOk-weaker}
use Rattle.zoom_sim.specs.RunSound.{AreStarted}
use Rattle.zoom_sim.proofs.RunMade.{moves_first}
use Rattle.zoom_sim.proofs.RunRounds.{started_fine}
use Rattle.zoom_sim.proofs.RunWorlds.{goes_world, peers_size, world_ends, world_trans}
use Rattle.zoom_sim.proofs.rounds.carry_out.Goals as goal

pub returns-clause-ends : goal.returns-clause-ends
returns-clause-ends g c = IfOk-weaker c.finish.result _ _ (λ _ f.
    world_ends c.args.meta.now c.make_moves.new.meta c.finish.new.meta c.args.peers.now c.make_moves.new.peers
    (world_trans c.args.meta.now c.drive_all.new.meta c.make_moves.new.meta c.args.peers.now c.args.peers.now
    c.make_moves.new.peers (goes_world c.args.meta.now c.drive_all.new.meta c.args.peers.now c.in_ok-drive_all.ensures.silent)
    c.in_ok-make_moves.ensures.goes) f) c.finish.ensures.ends

pub returns-clause-whole : goal.returns-clause-whole
returns-clause-whole g c = λ sure. IfOk-weaker c.finish.result _ _ (λ _ whole qs s ts after of equal.
    let started = subst (λ n. AreStarted n qs s ts c.drive_all.new.meta c.args.peers.now) after.size
    (c.in_ok-drive_all.ensures.starts.on qs s ts c.args.peers.now after of) in
    whole.on qs s ts ((c.in_ok-make_moves.ensures.stays sure).on qs s ts
    (started_fine qs s ts c.drive_all.new.meta c.args.peers.now started (peers_size ts c.args.peers.now of) equal)))
    (c.finish.ensures.whole sure)

pub returns-clause-moved : goal.returns-clause-moved
returns-clause-moved g c =
    moves_first g.W.Channel.carries_to g.W.Channel.carries_from g.W.Channel.fails c.finish.result c.args.moves.now
    c.args.channel.now c.make_moves.new.channel c.finish.new.channel c.args.meta.now c.drive_all.new.meta
    c.make_moves.new.meta c.finish.new.meta c.args.peers.now c.make_moves.new.peers c.finish.new.peers
    c.in_ok-drive_all.ensures.own c.in_ok-make_moves.ensures.moved c.finish.ensures.ends c.finish.ensures.own
