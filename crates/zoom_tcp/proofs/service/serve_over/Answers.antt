use Rattle.std.proofs.Common.{◌∙◌, ◌<◌, ap, subst, sym, Err, rules}
use Rattle.std.proofs.lemmas.Result.{err_from_is_err_and}
use Rattle.zoom_tcp.specs.Serving.{nobody, one_more, AfterServe}
use Rattle.zoom_tcp.proofs.service.serve_over.Goals as goal

pub loop-init : goal.loop-init
loop-init g c = nobody

pub loop-preserved : goal.loop-preserved
loop-preserved g c = one_more c.loop.invariant c.in_ok-serve_next.ensures

pub returns-in_err-serve_next-clause-served : goal.returns-in_err-serve_next-clause-served
returns-in_err-serve_next-clause-served g c =
    let few : c.loop.counter < c.args.count = search rules in
    let p = err_from_is_err_and c.from_residual.result c.from_residual.ensures.1 in
    subst
    (λ z. AfterServe g.K.Clients.IsArrival g.K.Clients.IsDeparture g.R.Source.state g.W.Sink.state
    (record { databases = c.args.databases.now; settings = c.args.settings }) c.args.count z c.args.clients.now
    c.serve_next.new.clients) (sym (p.1 ∙ ap Err p.2))
    (c.loop.counter, c.loop.clients, few, c.loop.invariant, c.in_err-serve_next.ensures)
