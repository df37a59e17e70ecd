use Rattle.std.proofs.Common.{ap}
use Rattle.zoom_tcp.proofs.service.serve.Goals as goal

pub returns-clause-served : goal.returns-clause-served
returns-clause-served g c =
    (c.new-clients.result, c.serve_over.new.clients, ap (λ l. l.now) c.new-clients.ensures, c.serve_over.ensures.served)
