use Rattle.std.proofs.Common.{refl, arith}
use Rattle.zoom_trace.proofs.recording.Recorder.notice.Goals as goal

pub returns-clause-recorded : goal.returns-clause-recorded
returns-clause-recorded g c = record {
  fed = λ i history after. after;
  size = refl;
  writable = ((omega (arith, c.ranges.now), omega (arith, c.ranges.c)), tt);
  traced = c.in_ok-note.ensures;
}
