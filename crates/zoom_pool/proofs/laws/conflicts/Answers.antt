use Rattle.zoom_pool.proofs.Rows.{conflicts}
use Rattle.zoom_pool.proofs.laws.conflicts.Goals as goal

pub returns : goal.returns
returns c = conflicts c.place_laws.ensures c.list_laws.ensures
