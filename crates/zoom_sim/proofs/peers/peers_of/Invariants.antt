use Rattle.std.proofs.Common.{◌≡◌, ◌++◌, length}
use Rattle.std.specs.Vec.Iter.{into_iter_items, into_iter_len}
use Rattle.zoom_sim.specs.RunSteps.{ArePeersOf}
use Rattle.zoom_sim.proofs.peers.peers_of.Given as goal

abbrev pub invariant-loop-target : goal.invariant-loop-target
invariant-loop-target l =
    (l.yielded ++ into_iter_items l.target-iterator ≡ into_iter_items l.initial.target-iterator)
    × ArePeersOf l.yielded l.peers.items
    × (into_iter_len l.target-iterator ≡ length (into_iter_items l.target-iterator))
