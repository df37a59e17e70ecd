use Rattle.zoom_trace.proofs.ReadTraces.{none_refused}
use Rattle.zoom_trace.proofs.laws.sound_law.Goals as goal

pub returns : goal.returns
returns c = none_refused
