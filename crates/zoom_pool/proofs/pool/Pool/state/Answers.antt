use Rattle.zoom_pool.specs.Links.{Links}
use Rattle.zoom_pool.proofs.Pools.{stop_is}
use Rattle.zoom_pool.proofs.pool.Pool.state.Goals as goal

pub returns-clause-stopped : goal.returns-clause-stopped
returns-clause-stopped c =
    let old : Links = record { connections = c.self.inside.connections.items; knowledge = c.self.inside.knowledge } in
    rw (← c.self.view_is) (stop_is old c.args.c _ c.index.result.now c.state.result (rw (← c.self.view_is) at c.requires)
    c.index.ensures c.state.ensures.stopped)
