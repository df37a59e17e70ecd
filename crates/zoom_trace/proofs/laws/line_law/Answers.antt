use Rattle.zoom_trace.proofs.ReadLines.{one_entry}
use Rattle.zoom_trace.proofs.laws.line_law.Goals as goal

pub returns : goal.returns
returns c = one_entry
