-- the octets taken from the rest were appended
use Rattle.zmeta_devices.proofs.DeviceSteps.{HasPut}
use Rattle.zmeta_devices.proofs.counted.write_pieces.Given as goal

abbrev pub invariant-loop : goal.invariant-loop
invariant-loop g l = HasPut (g.W.Write.contents l.initial.writer) (g.W.Write.contents l.writer) l.text l.rest
