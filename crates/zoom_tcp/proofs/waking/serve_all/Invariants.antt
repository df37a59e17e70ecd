use Rattle.zoom_trace.specs.Recording.{IsRecordedOn}
use Rattle.zoom_tcp.specs.Waking.{AreTold}
use Rattle.zoom_tcp.proofs.waking.serve_all.Given as goal

abbrev pub invariant-loop : goal.invariant-loop
invariant-loop g l =
    IsRecordedOn g.T.Write.contents l.initial.recorder l.recorder
    × AreTold g.R.Ready.IsServed g.T.Write.contents l.now l.initial.ready l.initial.recorder l.counter l.ready l.recorder
