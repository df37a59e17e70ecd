use Rattle.zoom_tcp.specs.Families.{AreUsed}
use Rattle.zoom_tcp.proofs.names.resolve.Given as goal

abbrev pub invariant-loop-address : goal.invariant-loop-address
invariant-loop-address g l = AreUsed l.family l.found.addresses.items
