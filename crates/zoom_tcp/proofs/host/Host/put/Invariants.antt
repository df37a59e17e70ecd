use Rattle.std.proofs.Common.{◌+◌, ◌-◌, length}
use Rattle.zoom_tcp.proofs.host.Host.put.Given as goal

abbrev pub invariant-loop-self : goal.invariant-loop-self
invariant-loop-self l = Unit {0}

abbrev pub decreases-loop-self : goal.decreases-loop-self
decreases-loop-self l = l.k + 1 - length l.self.sockets.items
