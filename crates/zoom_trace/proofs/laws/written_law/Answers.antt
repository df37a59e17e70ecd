use Rattle.zoom_trace.proofs.Replaying.{written_of}
use Rattle.zoom_trace.proofs.laws.written_law.Goals as goal

pub returns : goal.returns
returns g c = written_of g.W.Write.contents
