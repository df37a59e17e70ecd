use Rattle.zoom_pool.proofs.Stopping.{stopped}
use Rattle.zoom_pool.proofs.connection.Connection.stop.Goals as goal

pub returns-clause-after : goal.returns-clause-after
returns-clause-after c = rw (← c.self.view_is) (λ settings events p l. stopped settings events p _ c.args.reason l)
