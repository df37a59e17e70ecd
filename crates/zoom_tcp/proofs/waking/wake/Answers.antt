use Rattle.std.proofs.Common.{[], ◌∷◌}
use Rattle.zoom_trace.specs.declared.entry.Traced.TheVariants as traced
use Rattle.zoom_trace.specs.Reading.{entry_at}
use Rattle.zoom_trace.proofs.Recorded.{then_recorded}
use Rattle.zoom_tcp.proofs.waking.wake.Goals as goal

pub returns-clause-recorded : goal.returns-clause-recorded
returns-clause-recorded g c =
    then_recorded g.T.Write.contents (entry_at c.time-now.result traced.Ticked ∷ []) c.args.recorder.now
    c.serve_all.new.recorder c.tick.new.self c.in_ok-serve_all.ensures.recorded c.in_ok-tick.ensures

pub returns-clause-woken : goal.returns-clause-woken
returns-clause-woken g c = record {
  waited = c.wait.new.self;
  time = c.time-now.ensures;
  ready = c.gather.new.ready;
  gathered = c.in_ok-gather.ensures;
  told = c.serve_all.new.recorder;
  served = c.in_ok-serve_all.ensures.told;
  passed = c.in_ok-tick.ensures;
}
