use Rattle.zoom_asking.proofs.Endings.{over_ends, unasked}
use Rattle.zoom_asking.proofs.laws.end_laws.Goals as goal

pub returns : goal.returns
returns c = record { over = over_ends c.one_input.ensures; not_chosen = unasked }
