use Rattle.std.proofs.Common.{◌≡◌, ◌∙◌, ◌++◌, ap, subst}
use Rattle.zoom_pool.specs.Links.{waiting_at}
use Rattle.zoom_devices.specs.Devices.{HasAppendedFront}
use Rattle.zoom_io.proofs.Sending.{write_failed_after}
use Rattle.zoom_pool.proofs.Pools.{else_more}
use Rattle.zoom_io.proofs.outgoing.push.Goals as goal

pub returns-clause-pushes : goal.returns-clause-pushes
returns-clause-pushes g c =
    let waiting = waiting_at c.args.meta.now.pool c.args.c in
    let all : c.deref.result.now ≡ waiting =
    c.deref.ensures.value ∙ c.in_ok-outgoing.ensures.gives ∙ ap (λ z. z ++ waiting) c.new-octets.ensures.items in (
      write_failed_after c.args.c waiting c.args.meta.now c.outgoing.new.self c.stop.new.self c.in_ok-outgoing.ensures.after
          c.stop.ensures.after,
      subst (λ z. HasAppendedFront (g.W.Sink.state c.args.sink.now).octets (g.W.Sink.state c.write_all.new.sink).octets z) all c.in-Err.ensures.0,
      c.in-Err.ensures.1,
    )

pub returns-clause-rest : goal.returns-clause-rest
returns-clause-rest g c =
    else_more c.args.c c.args.meta.now.pool c.outgoing.new.self.pool c.stop.new.self.pool c.outgoing.ensures.rest
    c.stop.ensures.rest
