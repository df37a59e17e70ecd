use Rattle.zoom_tcp.specs.Serving.{AreServed}
use Rattle.zoom_tcp.proofs.service.serve_over.Given as goal

abbrev pub invariant-loop : goal.invariant-loop
invariant-loop g l =
    AreServed g.K.Clients.IsArrival g.K.Clients.IsDeparture g.R.Source.state g.W.Sink.state
    (record { databases = l.databases; settings = l.settings }) l.initial.clients l.counter l.clients
