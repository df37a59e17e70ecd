use Rattle.std.proofs.Common.{refl, sym, subst, [], Some}
use Rattle.zoom_trace.specs.Tracing.{IsTracedIf}
use Rattle.zoom_trace.proofs.recording.Recorder.write_out.Goals as goal

pub returns-clause-recorded : goal.returns-clause-recorded
returns-clause-recorded g c = record {
  fed = λ i history after. after;
  size = refl;
  writable = tt;
  traced = subst (λ trace. IsTracedIf g.W.Write.contents [] trace (Some c.write_out.new.self)) (sym c.in-Some.is)
      c.write_out.ensures.traced;
}
