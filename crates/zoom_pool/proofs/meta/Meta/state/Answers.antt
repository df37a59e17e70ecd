use Rattle.zoom_pool.proofs.meta.Meta.state.Goals as goal

pub returns-clause-state : goal.returns-clause-state
returns-clause-state c = rw (← c.self.view_is) c.state.ensures.state

pub returns-clause-stopped : goal.returns-clause-stopped
returns-clause-stopped c = rw (← c.self.view_is) c.state.ensures.stopped
