use Rattle.std.proofs.Common.{◌∙◌, refl}
use Rattle.zoom_pool.specs.Links.{waiting_at}
use Rattle.zoom_sim.specs.declared.peers.Peer.{Peer}
use Rattle.zoom_sim.proofs.RunCarries.{to_carries}
use Rattle.zoom_sim.proofs.RunPeers.{whole_left}
use Rattle.zoom_sim.proofs.RunPieces.{to_steps}
use Rattle.zoom_sim.proofs.RunMoves.{carried_to}
use Rattle.zoom_sim.proofs.peers.Peer.carry_to.Goals as goal

pub returns-clause-carries : goal.returns-clause-carries
returns-clause-carries g c =
    let was : Peer = c.args.self.now in
    let now : Peer = record { host = c.feed.new.self; to = c.pass.new.self; from = was.from } in
    to_carries c.args.c c.args.meta.now c.take_in_sent.new.meta was now (waiting_at c.args.meta.now.pool c.args.c)
    c.take_in_sent.new.self c.next-piece.result.now c.count_of.result c.in_ok-take_in_sent.ensures.after
    c.in_ok-take_in_sent.ensures.pipe c.next-piece.ensures.front c.in_ok-feed.ensures.fed c.pass.ensures refl

pub returns-clause-steps : goal.returns-clause-steps
returns-clause-steps g c = λ sure.
    let was : Peer = c.args.self.now in
    let now : Peer = record { host = c.feed.new.self; to = c.pass.new.self; from = was.from } in
    let laws = c.exchange_laws.ensures in
    to_steps c.one_transcript.ensures laws.gives laws.host_fed laws.one_served c.args.c c.args.meta.now
    c.take_in_sent.new.meta was now c.take_in_sent.new.self c.next-piece.result.now c.count_of.result
    c.in_ok-take_in_sent.ensures.after c.in_ok-take_in_sent.ensures.pipe c.next-piece.ensures.front
    c.in_ok-feed.ensures.fed c.in_ok-feed.ensures.waiting c.pass.ensures refl

pub returns-clause-all : goal.returns-clause-all
returns-clause-all g c = λ sure most. (
  whole_left c.take_in_sent.new.self c.next-piece.result.now c.pass.new.self
      (c.next-piece.ensures.whole (c.count_of.ensures.all (c.carry_to-came.ensures.arrives sure) ∙ most)) c.pass.ensures,
  c.in_ok-take_in_sent.ensures.none,
)

pub returns-clause-carried : goal.returns-clause-carried
returns-clause-carried g c =
    let was : Peer = c.args.self.now in
    let now : Peer = record { host = c.feed.new.self; to = c.pass.new.self; from = was.from } in
    carried_to g.W.Channel.carries_to c.args.c c.args.k c.count_of.result c.carry_to-came.result c.args.channel.now
    c.carry_to-came.new.self c.args.meta.now c.take_in_sent.new.meta was now c.take_in_sent.new.self c.next.result.now
    c.next-piece.result.now c.next.ensures.front c.carry_to-came.ensures.carries c.count_of.ensures.all
    c.count_of.ensures.none c.next-piece.ensures.front c.in_ok-take_in_sent.ensures.pipe
    c.in_ok-take_in_sent.ensures.after c.in_ok-feed.ensures.fed c.pass.ensures refl
