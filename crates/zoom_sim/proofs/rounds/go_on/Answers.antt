use Rattle.std.proofs.Common.{subst}
use Rattle.std.proofs.lemmas.Result.{IfOk-weaker}
use Rattle.zoom_sim.specs.RunRounds.{AfterSoundRound}
use Rattle.zoom_sim.specs.RunMade.{RoundStep}
use Rattle.zoom_sim.proofs.RunMade.{went_on, went_out}
use Rattle.zoom_sim.proofs.RunFinishes.{grows_moved, grows_ended}
use Rattle.zoom_sim.proofs.RunWorlds.{world_trans, goes_world}
use Rattle.zoom_sim.proofs.rounds.go_on.Goals as goal

pub returns-then-branch-clause-grows : goal.returns-then-branch-clause-grows
returns-then-branch-clause-grows g c = λ sure.
    grows_moved c.args.meta.now c.go_round.new.meta c.args.peers.now c.go_round.new.peers
    (subst (λ b. AfterSoundRound b c.args.meta.now c.go_round.new.meta c.args.peers.now c.go_round.new.peers)
    c.if-branch.true (c.in_ok-go_round.ensures.rounds sure))

pub returns-else-branch-clause-goes : goal.returns-else-branch-clause-goes
returns-else-branch-clause-goes g c = IfOk-weaker c.end_inputs.result _ _ (λ _ g.
    world_trans c.args.meta.now c.go_round.new.meta c.end_inputs.new.meta c.args.peers.now c.go_round.new.peers
    c.go_round.new.peers c.in_ok-go_round.ensures.goes
    (goes_world c.go_round.new.meta c.end_inputs.new.meta c.go_round.new.peers g)) c.end_inputs.ensures.silent

pub returns-else-branch-clause-grows : goal.returns-else-branch-clause-grows
returns-else-branch-clause-grows g c = λ sure. IfOk-weaker c.end_inputs.result _ _ (λ _ spares.
    grows_ended c.exchange_laws.ensures.few c.args.meta.now c.go_round.new.meta c.end_inputs.new.meta c.args.peers.now c.go_round.new.peers
    (subst (λ b. AfterSoundRound b c.args.meta.now c.go_round.new.meta c.args.peers.now c.go_round.new.peers)
    c.if-branch.false (c.in_ok-go_round.ensures.rounds sure)) spares) c.end_inputs.ensures.unfinished_only

pub returns-then-branch-clause-own : goal.returns-then-branch-clause-own
returns-then-branch-clause-own g c =
    let to = g.W.Channel.carries_to in
    let from = g.W.Channel.carries_from in
    let fails = g.W.Channel.fails in
    went_on to from fails c.args.channel.now c.go_round.new.channel c.args.meta.now c.go_round.new.meta
    c.args.peers.now c.go_round.new.peers
    (subst (λ b. RoundStep to from fails b c.args.channel.now c.go_round.new.channel c.args.meta.now c.go_round.new.meta
    c.args.peers.now c.go_round.new.peers) c.if-branch.true c.in_ok-go_round.ensures.own)

pub returns-else-branch-clause-own : goal.returns-else-branch-clause-own
returns-else-branch-clause-own g c = IfOk-weaker c.end_inputs.result _ _ (λ _ ends.
    let to = g.W.Channel.carries_to in
    let from = g.W.Channel.carries_from in
    let fails = g.W.Channel.fails in
    went_out to from fails c.args.channel.now c.go_round.new.channel c.args.meta.now c.go_round.new.meta
    c.end_inputs.new.meta c.args.peers.now c.go_round.new.peers
    (subst (λ b. RoundStep to from fails b c.args.channel.now c.go_round.new.channel c.args.meta.now c.go_round.new.meta
    c.args.peers.now c.go_round.new.peers) c.if-branch.false c.in_ok-go_round.ensures.own) ends)
    c.end_inputs.ensures.own
