use Rattle.zoom_trace.specs.Recording.{reported, noticed}
use Rattle.zoom_trace.proofs.Recorded.{one_recorded, then_recorded}
use Rattle.zoom_tcp.proofs.telling.tell.Goals as goal

pub returns-clause-recorded : goal.returns-clause-recorded
returns-clause-recorded g c =
    let W = g.T.Write.contents in
    let old = c.args.recorder.now in
    let told = c.report.new.self in
    let one = one_recorded W (reported c.args.now c.args.c c.args.report) old told c.in_ok-report.ensures in
    then_recorded W (noticed c.args.now c.args.c c.notice-noticed.result) old told c.notice.new.self one
    c.in_ok-notice.ensures.recorded
