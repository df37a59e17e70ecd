use Rattle.zoom_trace.specs.Recording.{IsRecordedOn}
use Rattle.zoom_tcp.proofs.asking.Shell.act_all.Given as goal

abbrev pub invariant-loop : goal.invariant-loop
invariant-loop g l = IsRecordedOn g.T.Write.contents l.initial.recorder l.recorder
