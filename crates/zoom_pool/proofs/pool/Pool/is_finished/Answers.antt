use Rattle.std.proofs.Common.{◌≡◌, ◌<◌, rules, List, length, slice_get, Some, sym, ap, subst, ◌∙◌}
use Rattle.zoom_pool.specs.States.{is_stopped}
use Rattle.zoom_pool.specs.Links.{Link, Links}
use Rattle.zoom_pool.proofs.Pools.{AllStopped, got, stopped_none, stopped_one, finished_all, finished_not}
use Rattle.zoom_pool.proofs.pool.Pool.is_finished.Goals as goal

pub loop-connection-init : goal.loop-connection-init
loop-connection-init c = stopped_none _

pub loop-connection-preserved : goal.loop-connection-preserved
loop-connection-preserved c =
    let items = c.deref-connection-items.result.now in
    let lt : c.loop-connection.connection-index < length items = search rules in
    stopped_one c.loop-connection.connection-index items c.connection-item.result c.loop-connection.invariant
    (got items c.loop-connection.connection-index _ c.connection-item.result lt c.connection-item.is)
    (λ p m. sym (ap is_stopped (c.state.ensures.state p m)) ∙ sym c.is_stopped.ensures ∙ c.if-not-is_stopped.false)

pub returns-then-not-is_stopped : goal.returns-then-not-is_stopped
returns-then-not-is_stopped c =
    let items = c.deref-connection-items.result.now in
    let lt : c.loop-connection.connection-index < length items = search rules in
    let pool : Links = record { connections = c.self.inside.connections.items; knowledge = c.self.inside.knowledge } in
    let at = got items c.loop-connection.connection-index _ c.connection-item.result lt c.connection-item.is in
    rw (← c.self.view_is) (finished_not pool c.loop-connection.connection-index c.connection-item.result
    (subst (λ (l : List Link). c.loop-connection.connection-index < length l) c.deref-connection-items.ensures.value lt)
    (subst (λ (l : List Link). slice_get l c.loop-connection.connection-index ≡ Some c.connection-item.result)
    c.deref-connection-items.ensures.value at)
    (λ p m. sym (ap is_stopped (c.state.ensures.state p m)) ∙ sym c.is_stopped.ensures ∙ c.if-not-is_stopped.true))

pub returns : goal.returns
returns c =
    let items = c.deref-connection-items.result.now in
    let pool : Links = record { connections = c.self.inside.connections.items; knowledge = c.self.inside.knowledge } in
    let e : c.loop-connection.connection-index ≡ length items = search rules in
    rw (← c.self.view_is) (finished_all pool (subst (λ (l : List Link). AllStopped (length l) l)
    c.deref-connection-items.ensures.value
    (subst (λ n. AllStopped n items) e c.loop-connection.invariant)))
