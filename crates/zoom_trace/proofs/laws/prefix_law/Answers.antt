use Rattle.zoom_trace.proofs.ReadTraces.{prefix_read}
use Rattle.zoom_trace.proofs.laws.prefix_law.Goals as goal

pub returns : goal.returns
returns c = prefix_read
