use Rattle.zoom_pool.proofs.Pools.{AllStopped}
use Rattle.zoom_pool.proofs.pool.Pool.is_finished.Given as goal

abbrev pub invariant-loop-connection : goal.invariant-loop-connection
invariant-loop-connection l = AllStopped l.connection-index l.connection-items
