use Rattle.std.proofs.Common.{◌≡◌, length}
use Rattle.zmeta_commands.specs.Stops.{AreStopsOf}
use Rattle.zmeta_commands.proofs.stops.stops_of.Given as goal

abbrev pub invariant-loop-c : goal.invariant-loop-c
invariant-loop-c l = AreStopsOf l.limits l.waits l.noticed l.meta l.stops.items × (length l.stops.items ≡ l.c)
