use Rattle.zoom_trace.proofs.Replaying.{replay_of}
use Rattle.zoom_trace.proofs.laws.replay_law.Goals as goal

pub returns : goal.returns
returns c = replay_of
