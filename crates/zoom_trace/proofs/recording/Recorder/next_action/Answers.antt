use Rattle.std.proofs.Common.{ap, length}
use Rattle.zoom_pool.specs.Metas.{MetaLinks}
use Rattle.zoom_trace.proofs.recording.Recorder.next_action.Goals as goal

pub returns-clause-recorded : goal.returns-clause-recorded
returns-clause-recorded g c = record {
  fed = c.next_action.ensures.after;
  size = ap (λ (m : MetaLinks). length m.pool.connections) c.next_action.ensures.meta;
  writable = c.action_fits.ensures;
  traced = c.in_ok-note.ensures;
}
