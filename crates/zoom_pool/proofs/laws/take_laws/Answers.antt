use Rattle.zoom_pool.proofs.Steps.{take_laws}
use Rattle.zoom_pool.proofs.laws.take_laws.Goals as goal

pub returns : goal.returns
returns c = take_laws c.one_input.ensures
