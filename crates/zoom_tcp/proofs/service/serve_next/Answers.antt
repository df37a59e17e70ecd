use Rattle.std.proofs.Common.{◌∙◌, ap, subst, sym, Err}
use Rattle.std.proofs.lemmas.Result.{err_from_is_err_and}
use Rattle.zoom_tcp.specs.Serving.{answered, AfterServeNext}
use Rattle.zoom_tcp.proofs.service.serve_next.Goals as goal

pub returns-in_err-answer_client-in-Client : goal.returns-in_err-answer_client-in-Client
returns-in_err-answer_client-in-Client g c =
    let p = err_from_is_err_and c.from_residual.result c.from_residual.ensures.1 in
    subst
    (λ z. AfterServeNext g.K.Clients.IsArrival g.K.Clients.IsDeparture g.R.Source.state g.W.Sink.state
    (record { databases = c.args.databases.now; settings = c.args.settings }) z c.args.clients.now
    c.next_client.new.self) (sym (p.1 ∙ ap Err p.2)) (
      c.in-Client.source,
      c.answer_client.new.source,
      c.in-Client.sink,
      c.answer_client.new.sink,
      c.in-Client.ensures,
      c.in_err-answer_client-in-Client.ensures.starved,
    )

pub returns-in_ok-answer_client-in-Client : goal.returns-in_ok-answer_client-in-Client
returns-in_ok-answer_client-in-Client g c =
    answered c.next_client.new.self c.in-Client.ensures c.in_ok-answer_client-in-Client.ensures.answered
    c.end_client.ensures
