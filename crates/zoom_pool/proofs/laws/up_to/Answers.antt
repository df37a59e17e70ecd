use Rattle.zoom_pool.proofs.Pools.{up_to_more}
use Rattle.zoom_pool.proofs.laws.up_to.Goals as goal

pub returns : goal.returns
returns c = up_to_more
