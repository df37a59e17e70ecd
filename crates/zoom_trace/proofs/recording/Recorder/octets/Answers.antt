use Rattle.std.proofs.Common.{arith}
use Rattle.zoom_trace.proofs.recording.Recorder.octets.Goals as goal

pub returns : goal.returns
returns g c = record {
  fed = c.in_ok-octets.ensures.after;
  size = c.in_ok-octets.ensures.size;
  writable = (
    (omega (arith, c.ranges.now), (omega (arith, c.ranges.c), λ k. omega (arith, c.type_inv.piece k))),
    tt,
  );
  traced = c.in_ok-note_received.ensures;
}
