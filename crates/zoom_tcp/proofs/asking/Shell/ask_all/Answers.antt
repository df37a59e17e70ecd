use Rattle.std.proofs.Common.{arith}
use Rattle.zoom_tcp.proofs.Ending.{ends_after, ends_before}
use Rattle.zoom_tcp.proofs.asking.Shell.ask_all.Goals as goal

pub go_to_end-requires : goal.go_to_end-requires
go_to_end-requires g c = omega (arith, c.in_ok-begin.ensures.are.size, c.requires.few)

pub returns-clause-ended : goal.returns-clause-ended
returns-clause-ended g c =
    let W = g.T.Write.contents in
    let old = c.args.recorder.now in
    let ended = ends_after W old c.begin.new.recorder c.go_to_end.new.recorder c.in_ok-begin.ensures
    c.in_ok-go_to_end.ensures in
    ends_before W old c.go_to_end.new.recorder c.write_out.new.self ended c.write_out.ensures.recorded
    c.write_out.ensures.asking
