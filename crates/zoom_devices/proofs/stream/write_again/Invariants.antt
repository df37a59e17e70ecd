use Rattle.std.specs.Io.KnownBytes.{Keeps}
use Rattle.zoom_devices.proofs.stream.write_again.Given as goal

abbrev pub invariant-loop : goal.invariant-loop
invariant-loop g l = Keeps (g.D.Write.contents l.initial.writer) (g.D.Write.contents l.writer)
