use Rattle.zoom_trace.proofs.JsonLines.{entry_printed}
use Rattle.zoom_trace.proofs.laws.json_law.Goals as goal

pub returns : goal.returns
returns c = entry_printed
