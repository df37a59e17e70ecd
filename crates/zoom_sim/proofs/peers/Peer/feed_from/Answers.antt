use Rattle.std.proofs.Common.{◌∙◌, refl, arith}
use Rattle.std.proofs.lemmas.Bool.Decides.{nat_tests}
use Rattle.zoom_sim.specs.declared.peers.Peer.{Peer}
use Rattle.zoom_sim.proofs.RunCarries.{from_carries}
use Rattle.zoom_sim.proofs.RunPeers.{none_left, whole_left}
use Rattle.zoom_sim.proofs.RunPieces.{from_steps}
use Rattle.zoom_sim.proofs.RunMoves.{fed_from}
use Rattle.zoom_sim.proofs.peers.Peer.feed_from.Goals as goal

pub returns-clause-carries : goal.returns-clause-carries
returns-clause-carries g c =
    let was : Peer = c.args.self.now in
    let now : Peer = record { host = c.take_in_replies.new.host; to = was.to; from = c.pass.new.self } in
    from_carries c.args.c c.args.meta.now c.feed.new.self was now c.take_in_replies.new.self c.next-piece.result.now
    c.count_of.result c.in_ok-take_in_replies.ensures.after c.in_ok-take_in_replies.ensures.pipe
    c.next-piece.ensures.front c.in_ok-feed.ensures.after c.pass.ensures refl

pub returns-clause-steps : goal.returns-clause-steps
returns-clause-steps g c = λ sure.
    let was : Peer = c.args.self.now in
    let now : Peer = record { host = c.take_in_replies.new.host; to = was.to; from = c.pass.new.self } in
    let laws = c.exchange_laws.ensures in
    from_steps laws.over laws.handed laws.fed c.take_in_replies.new.self c.next-piece.result.now c.count_of.result
    c.next-piece.ensures.front _ (λ e. none_left c.next-piece.result.now (grind (arith, nat_tests))) laws.one_served
    c.args.c c.args.meta.now c.feed.new.self was now c.in_ok-take_in_replies.ensures.after
    c.in_ok-take_in_replies.ensures.none c.in_ok-take_in_replies.ensures.pipe c.in_ok-feed.ensures.after c.pass.ensures
    refl

pub returns-clause-all : goal.returns-clause-all
returns-clause-all g c = λ sure most. record {
  host = c.in_ok-take_in_replies.ensures.after;
  waiting = c.in_ok-take_in_replies.ensures.none;
  to = refl;
  from = whole_left c.take_in_replies.new.self c.next-piece.result.now c.pass.new.self
      (c.next-piece.ensures.whole (c.count_of.ensures.all (c.carry_from-came.ensures.arrives sure) ∙ most)) c.pass.ensures;
}

pub returns-clause-carried : goal.returns-clause-carried
returns-clause-carried g c =
    let was : Peer = c.args.self.now in
    let now : Peer = record { host = c.take_in_replies.new.host; to = was.to; from = c.pass.new.self } in
    fed_from g.W.Channel.carries_from c.args.c c.args.k c.count_of.result c.carry_from-came.result c.args.channel.now
    c.carry_from-came.new.self c.args.meta.now c.feed.new.self was now c.take_in_replies.new.self c.next.result.now
    c.next-piece.result.now c.next.ensures.front c.carry_from-came.ensures.carries c.count_of.ensures.all
    c.count_of.ensures.none c.next-piece.ensures.front c.in_ok-take_in_replies.ensures.pipe
    c.in_ok-take_in_replies.ensures.after c.in_ok-feed.ensures.after c.pass.ensures refl
