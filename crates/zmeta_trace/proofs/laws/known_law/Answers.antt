use Rattle.zmeta_trace.proofs.Knowing.{known}
use Rattle.zmeta_trace.proofs.laws.known_law.Goals as goal

pub returns : goal.returns
returns c = known c.same_law.ensures
