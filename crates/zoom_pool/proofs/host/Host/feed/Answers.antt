use Rattle.std.proofs.Common.{◌≡◌, true, false, refl, sym, ap, subst, ◌∙◌}
use Rattle.zoom_pool.specs.Transcripts.{joined}
use Rattle.zoom_pool.specs.Hosts.{HostState}
use Rattle.zoom_pool.specs.HostSteps.{ReceiptStep, IsFollowingPiece, IsReceiptEnd, AnyRest, SameOutput}
use Rattle.zoom_pool.proofs.Served.{fed_by, part_by}
use Rattle.zoom_pool.proofs.host.Host.feed.Goals as goal

pub returns-in-Ok-clause-fed : goal.returns-in-Ok-clause-fed
returns-in-Ok-clause-fed c =
    let old : HostState = c.args.self.now in
    let piece = c.args.piece.now in
    let b = c.in-Ok.stopped in
    let inside = c.self-2.inside in
    let new : HostState = record {
      target = inside.target;
      framer = inside.framer.stream;
      waiting = joined inside.waiting.items;
      stopped = b;
      closed = inside.closed;
    } in
    let going : old.stopped ≡ false = sym (ap (λ (z : HostState). z.stopped) c.self.view_is) ∙ c.if-self.false in
    let did = subst (λ (z : HostState).
    SameOutput old z × ReceiptStep (IsFollowingPiece old.framer piece) (IsReceiptEnd z.framer b) old.target z.target)
    (sym c.self-2.view_is) c.in-Ok.ensures in
    fed_by piece b old new going refl did.0 did.1

pub returns-in-Err-clause-part : goal.returns-in-Err-clause-part
returns-in-Err-clause-part c =
    let old : HostState = c.args.self.now in
    let piece = c.args.piece.now in
    let inside = c.self-2.inside in
    let new : HostState = record {
      target = inside.target;
      framer = inside.framer.stream;
      waiting = joined inside.waiting.items;
      stopped = true;
      closed = inside.closed;
    } in
    let going : old.stopped ≡ false = sym (ap (λ (z : HostState). z.stopped) c.self.view_is) ∙ c.if-self.false in
    let did = subst (λ (z : HostState).
    SameOutput old z × ReceiptStep (IsFollowingPiece old.framer piece) AnyRest old.target z.target)
    (sym c.self-2.view_is) c.in-Err.ensures in
    part_by piece old new going refl did.0 did.1
