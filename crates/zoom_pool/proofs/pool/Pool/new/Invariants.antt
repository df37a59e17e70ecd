use Rattle.std.proofs.Common.{◌≡◌, length}
use Rattle.zoom_pool.proofs.Pools.{AreFresh}
use Rattle.zoom_pool.proofs.pool.Pool.new.Given as goal

abbrev pub invariant-loop : goal.invariant-loop
invariant-loop l = AreFresh (record { name = l.name }) l.connections.items × (length l.connections.items ≡ l.counter)
