use Rattle.std.specs.declared.alloc.AllocError.{AllocError}
use Rattle.zoom_sim.proofs.RunCarries.{released_if}
use Rattle.zoom_sim.proofs.RunReleases.{released_fine}
use Rattle.zoom_sim.proofs.RunMoves.{released_one}
use Rattle.zoom_sim.proofs.peers.Peer.release.Goals as goal

pub returns-clause-releases : goal.returns-clause-releases
returns-clause-releases c =
    released_if {E = AllocError} c.args.k c.release.result c.args.self.now c.release.new.self c.release.ensures.releases

pub returns-clause-fine : goal.returns-clause-fine
returns-clause-fine c =
    let laws = c.exchange_laws.ensures in
    released_fine laws.one_served laws.released {E = AllocError} c.args.k c.release.result c.args.self.now
    c.release.new.self c.release.ensures.releases

pub returns-clause-released : goal.returns-clause-released
returns-clause-released c =
    released_one {E = AllocError} c.args.k c.release.result c.args.self.now c.release.new.self c.release.ensures.releases
