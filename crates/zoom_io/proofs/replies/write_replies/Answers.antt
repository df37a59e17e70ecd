use Rattle.std.proofs.Common.{◌≡◌, ◌∙◌, ◌++◌, ap, subst, sym, refl, Err}
use Rattle.std.proofs.lemmas.Result.{err_from_is_err_and}
use Rattle.std.specs.Io.KnownBytes.{Appends}
use Rattle.zoom_devices.specs.Devices.{HasAppendedFront}
use Rattle.zoom_io.specs.Answering.{AfterWriteReplies}
use Rattle.zoom_io.proofs.Answering.{on_handed}
use Rattle.zoom_io.proofs.replies.write_replies.Goals as goal

pub returns-in-Ok : goal.returns-in-Ok
returns-in-Ok g c =
    let waiting = c.args.host.now.waiting in
    let all : c.deref.result.now ≡ waiting =
    c.deref.ensures.value ∙ c.in_ok-outgoing.ensures.gives ∙ ap (λ z. z ++ waiting) c.new-octets.ensures.items in
    let sink = g.W.Sink.state c.args.sink.now in
    let held = g.W.Sink.state c.write_all.new.sink in
    on_handed c.args.host.now c.outgoing.new.self sink held c.in_ok-outgoing.ensures.after c.in_ok-outgoing.ensures.all
    (subst (λ z. Appends sink.octets held.octets z) all c.in-Ok.ensures.0) c.in-Ok.ensures.1

pub returns : goal.returns
returns g c =
    let waiting = c.args.host.now.waiting in
    let all : c.deref.result.now ≡ waiting =
    c.deref.ensures.value ∙ c.in_ok-outgoing.ensures.gives ∙ ap (λ z. z ++ waiting) c.new-octets.ensures.items in
    let sink = g.W.Sink.state c.args.sink.now in
    let held = g.W.Sink.state c.write_all.new.sink in
    record {
      handed = c.in_ok-outgoing.ensures.after;
      none_waits = c.in_ok-outgoing.ensures.all;
      front = subst (λ z. HasAppendedFront sink.octets held.octets z) all c.in-Err.ensures.0;
      failed = c.in-Err.ensures.1;
    }

pub returns-in_err-outgoing : goal.returns-in_err-outgoing
returns-in_err-outgoing g c =
    let p = err_from_is_err_and c.from_residual.result c.from_residual.ensures.1 in
    let sink = g.W.Sink.state c.args.sink.now in
    subst (λ z. AfterWriteReplies z c.args.host.now c.outgoing.new.self sink sink) (sym (p.1 ∙ ap Err p.2))
    (c.in_err-outgoing.ensures.err, refl)
