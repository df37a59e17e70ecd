use Rattle.zoom_trace.specs.Recording.{wanted}
use Rattle.zoom_trace.proofs.Recorded.{one_recorded, more_recorded}
use Rattle.zoom_tcp.proofs.asking.Shell.act_next.Goals as goal

pub returns : goal.returns
returns g c =
    let W = g.T.Write.contents in
    let old = c.args.recorder.now in
    let next = c.next_action.new.self in
    let got = one_recorded W (wanted c.args.self.now.now c.in_ok-next.next) old next c.in_ok-next.ensures.recorded in
    let acted = more_recorded W old next c.act.new.recorder got c.in_ok-report.ensures in
    more_recorded W old c.act.new.recorder c.tell_if.new.recorder acted c.in_ok-tell_if.ensures.recorded
