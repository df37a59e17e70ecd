use Rattle.std.proofs.Common.{◌≡◌, [], length, ap, sym, subst, ◌∙◌}
use Rattle.zoom_pool.specs.Metas.{MetaAfter}
use Rattle.zoom_sim.specs.RunSteps.{ArePeersOf}
use Rattle.zoom_sim.proofs.RunFailures.{fair_run}
use Rattle.zoom_sim.proofs.RunWorlds.{peers_size, world_new}
use Rattle.zoom_sim.proofs.run.run_over.Goals as goal

pub carry_out-requires-clause-equal : goal.carry_out-requires-clause-equal
carry_out-requires-clause-equal g c =
    let slice : length c.deref_mut.result.now ≡ length c.in_ok-peers.peers.items = ap length c.deref_mut.ensures.value in
    let size : length c.in_ok-peers.peers.items ≡ length c.args.targets.items =
    peers_size c.args.targets.items c.in_ok-peers.peers.items c.in_ok-peers.ensures in
    let asked : length c.from_vec.result ≡ length c.args.questions.items = ap length c.from_vec.ensures in
    slice ∙ size ∙ c.requires.equal ∙ sym asked ∙ sym c.in_ok-meta.ensures.size

pub returns-clause-is_run : goal.returns-clause-is_run
returns-clause-is_run g c =
    let after = subst (λ z. MetaAfter z c.args.settings [] c.in_ok-meta.meta) c.from_vec.ensures c.in_ok-meta.ensures.after in
    let of = subst (ArePeersOf c.args.targets.items) (sym c.deref_mut.ensures.value) c.in_ok-peers.ensures in
    (c.in_ok-carry_out.ensures.ends.on c.args.questions.items c.args.settings c.args.targets.items
    (world_new c.args.questions.items c.args.settings c.args.targets.items c.in_ok-meta.meta c.deref_mut.result.now after
    of)).0

pub returns-clause-whole : goal.returns-clause-whole
returns-clause-whole g c = λ sure.
    let after = subst (λ z. MetaAfter z c.args.settings [] c.in_ok-meta.meta) c.from_vec.ensures c.in_ok-meta.ensures.after in
    let of = subst (ArePeersOf c.args.targets.items) (sym c.deref_mut.ensures.value) c.in_ok-peers.ensures in
    c.in_ok-carry_out.ensures.whole sure c.args.questions.items c.args.settings c.args.targets.items after of
    c.requires.equal

pub returns-clause-brings : goal.returns-clause-brings
returns-clause-brings g c = λ sure.
    c.run_law.ensures c.args.questions.items c.args.settings c.args.targets.items c.carry_out.new.meta
    (returns-clause-whole g c sure) c.requires.equal

pub returns-clause-moved : goal.returns-clause-moved
returns-clause-moved g c =
    let begins = subst (λ z. MetaAfter z c.args.settings [] c.in_ok-meta.meta) c.from_vec.ensures c.in_ok-meta.ensures.after in
    let equal = subst (ArePeersOf c.args.targets.items) (sym c.deref_mut.ensures.value) c.in_ok-peers.ensures in
    let fair = fair_run g.W.Channel.carries_to g.W.Channel.carries_from g.W.Channel.fails c.args.questions.items
    c.args.settings c.args.targets.items c.args.moves.now c.args.channel.now c.carry_out.new.channel c.in_ok-meta.meta
    c.carry_out.new.meta c.deref_mut.result.now c.carry_out.new.peers c.in_ok-carry_out.ensures.moved begins equal
    c.one_transcript.ensures in
    record {
      first = c.in_ok-meta.meta;
      peers = c.deref_mut.result.now;
      last_peers = c.carry_out.new.peers;
      begins = begins;
      equal = equal;
      made = c.in_ok-carry_out.ensures.moved;
      run = fair.0;
      stops = fair.1;
    }
