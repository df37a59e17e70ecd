use Rattle.zoom_pool.proofs.Due.{due_laws}
use Rattle.zoom_pool.proofs.driving.due_laws.Goals as goal

pub returns : goal.returns
returns c = due_laws c.orderly_logs.ensures c.driven_laws.ensures c.number_law.ensures c.bound_laws.ensures
    c.sendable_requests.ensures
