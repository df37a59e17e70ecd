use Rattle.zoom_asking.proofs.Ended.{asked_end_of}
use Rattle.zoom_asking.proofs.laws.asked_end_law.Goals as goal

pub returns : goal.returns
returns c = asked_end_of c.asked_laws.ensures
