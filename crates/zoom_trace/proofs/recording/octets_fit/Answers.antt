use Rattle.std.proofs.Common.{arith}
use Rattle.zoom_trace.proofs.recording.octets_fit.Goals as goal

pub returns : goal.returns
returns c = λ k. omega (arith, c.type_inv.octets k)
