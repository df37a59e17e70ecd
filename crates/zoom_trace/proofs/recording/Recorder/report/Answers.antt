use Rattle.zoom_trace.proofs.recording.Recorder.report.Goals as goal

pub returns : goal.returns
returns g c = record {
  fed = c.in_ok-report.ensures.after;
  size = c.in_ok-report.ensures.size;
  writable = c.report_fits.ensures;
  traced = c.in_ok-note.ensures;
}
