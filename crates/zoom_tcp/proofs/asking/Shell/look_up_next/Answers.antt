use Rattle.zoom_trace.proofs.Recorded.{more_recorded}
use Rattle.zoom_tcp.proofs.asking.Shell.look_up_next.Goals as goal

pub loop-i-preserved : goal.loop-i-preserved
loop-i-preserved g c =
    more_recorded g.T.Write.contents c.args.recorder.now c.loop-i.recorder c.resolved.new.recorder c.loop-i.invariant
    c.in_ok-resolved.ensures.recorded
