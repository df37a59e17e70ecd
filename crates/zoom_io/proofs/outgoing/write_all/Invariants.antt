use Rattle.std.proofs.Common.{length}
use Rattle.zoom_devices.proofs.Devices.{HasWritten}
use Rattle.zoom_io.proofs.outgoing.write_all.Given as goal

abbrev pub invariant-loop-rest : goal.invariant-loop-rest
invariant-loop-rest g l = HasWritten (g.W.Sink.state l.initial.sink) (g.W.Sink.state l.sink) l.octets l.rest

abbrev pub decreases-loop-rest : goal.decreases-loop-rest
decreases-loop-rest g l = length l.rest
