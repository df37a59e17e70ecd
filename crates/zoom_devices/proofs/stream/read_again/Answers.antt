use Rattle.zoom_devices.proofs.Devices.{keeps_consumes}
use Rattle.zoom_devices.proofs.stream.read_again.Goals as goal

pub returns-in-Ok : goal.returns-in-Ok
returns-in-Ok g c = record {
  bound = c.in-Ok.ensures.bound;
  octets = (keeps_consumes _ _ _ _ c.loop.invariant c.in-Ok.ensures.bytes.0, c.in-Ok.ensures.bytes.1);
}
