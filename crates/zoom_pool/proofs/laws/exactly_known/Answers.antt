use Rattle.zoom_pool.proofs.Pools.{known_exactly}
use Rattle.zoom_pool.proofs.laws.exactly_known.Goals as goal

pub returns : goal.returns
returns c = known_exactly
