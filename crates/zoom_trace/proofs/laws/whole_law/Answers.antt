use Rattle.zoom_trace.proofs.ReadTraces.{whole_read}
use Rattle.zoom_trace.proofs.laws.whole_law.Goals as goal

pub returns : goal.returns
returns c = whole_read
