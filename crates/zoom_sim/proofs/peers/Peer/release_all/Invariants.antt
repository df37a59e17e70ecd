use Rattle.std.proofs.Common.{◌≡◌}
use Rattle.std.specs.Prelude.{nat_lt}
use Rattle.zoom_sim.specs.RunSteps.{PeerReleaseStep}
use Rattle.zoom_sim.specs.RunPeers.{ReleaseSteps}
use Rattle.zoom_sim.specs.RunMoves.{AreReleased}
use Rattle.zoom_sim.proofs.peers.Peer.release_all.Given as goal

abbrev pub invariant-loop-count : goal.invariant-loop-count
invariant-loop-count l =
    PeerReleaseStep l.initial.self l.self × ReleaseSteps l._count l.initial.self l.self
    × AreReleased l._count l.initial.self l.self × (l.released ≡ nat_lt 0 l._count)
