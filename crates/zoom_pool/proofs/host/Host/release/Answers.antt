use Rattle.std.proofs.Common.{◌≡◌, refl, ap, ◌∙◌}
use Rattle.std.specs.Prelude.{not, ◌&&◌, ◌||◌}
use Rattle.ztarget.specs.Receiving.{is_close}
use Rattle.zoom_pool.specs.Transcripts.{joined}
use Rattle.zoom_pool.specs.Hosts.{HostState}
use Rattle.zoom_pool.specs.HostSteps.{is_not_put}
use Rattle.zoom_pool.proofs.Served.{released_as}
use Rattle.zoom_pool.proofs.host.Host.release.Goals as goal

pub returns : goal.returns
returns c =
    let inside = c.self.inside in
    let old : HostState = record {
      target = inside.target;
      framer = inside.framer.stream;
      waiting = joined inside.waiting.items;
      stopped = inside.stopped;
      closed = inside.closed;
    } in
    let new : HostState = record {
      target = c.release.new.self;
      framer = inside.framer.stream;
      waiting = joined c.put_reply-put.new.waiting.items;
      stopped = c.is_not_put-self-inside.result;
      closed = c.has_closed-self-inside.result;
    } in
    let closed : new.closed ≡ (old.closed || (not (is_not_put c.put_reply-put.result) && is_close c.in-Some.reply))
    = c.has_closed-self-inside.ensures
    ∙ ap (λ u. inside.closed || (not u && is_close c.in-Some.reply)) c.is_not_put-self-inside.ensures in
    record {
      releases = rw (← c.self.view_is) (released_as c.args.k c.in-Some.reply c.put_reply-put.result old new
          inside.waiting.items c.put_reply-put.new.waiting.items c.if-self.false refl refl refl
          c.is_not_put-self-inside.ensures closed
          c.in-Some.ensures.releases c.in-Some.ensures.after c.put_reply-put.ensures);
    }
