use Rattle.zoom_tcp.proofs.Replayed.{replayed_of}
use Rattle.zoom_tcp.proofs.laws.replayed_law.Goals as goal

pub returns : goal.returns
returns c = replayed_of c.followed_law.ensures
