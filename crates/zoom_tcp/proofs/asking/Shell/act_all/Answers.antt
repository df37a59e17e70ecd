use Rattle.zoom_trace.proofs.Recorded.{more_recorded}
use Rattle.zoom_tcp.proofs.asking.Shell.act_all.Goals as goal

pub returns-then-not-branch : goal.returns-then-not-branch
returns-then-not-branch g c =
    more_recorded g.T.Write.contents c.args.recorder.now c.loop.recorder c.act_next.new.recorder c.loop.invariant
    c.in_ok-act_next.ensures

pub loop-preserved : goal.loop-preserved
loop-preserved g c =
    more_recorded g.T.Write.contents c.args.recorder.now c.loop.recorder c.act_next.new.recorder c.loop.invariant
    c.in_ok-act_next.ensures
