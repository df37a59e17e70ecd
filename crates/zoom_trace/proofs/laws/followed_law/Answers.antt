use Rattle.zoom_trace.proofs.Replaying.{followed_of}
use Rattle.zoom_trace.proofs.laws.followed_law.Goals as goal

pub returns : goal.returns
returns c = followed_of
