use Rattle.zoom_trace.specs.Recording.{IsRecordedOn}
use Rattle.zoom_tcp.proofs.asking.Shell.look_up_next.Given as goal

abbrev pub invariant-loop-i : goal.invariant-loop-i
invariant-loop-i g l = IsRecordedOn g.T.Write.contents l.initial.recorder l.recorder
