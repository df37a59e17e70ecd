use Rattle.std.proofs.Common.{arith}
use Rattle.zoom_trace.proofs.recording.Recorder.tick.Goals as goal

pub returns : goal.returns
returns g c = record {
  fed = c.in_ok-tick.ensures.after;
  size = c.in_ok-tick.ensures.size;
  writable = ((omega (arith, c.ranges.now), tt), tt);
  traced = c.in_ok-note.ensures;
}
