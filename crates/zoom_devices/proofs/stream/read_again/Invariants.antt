use Rattle.std.specs.Io.KnownBytes.{Keeps}
use Rattle.zoom_devices.proofs.stream.read_again.Given as goal

abbrev pub invariant-loop : goal.invariant-loop
invariant-loop g l = Keeps (g.D.Read.remaining l.initial.reader) (g.D.Read.remaining l.reader)
