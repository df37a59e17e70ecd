use Rattle.std.proofs.Common.{[]}
use Rattle.zoom_trace.proofs.Fed.{all_reported}
use Rattle.zoom_trace.proofs.laws.reports_law.Goals as goal

pub returns : goal.returns
returns c = λ entries. all_reported entries [] tt
