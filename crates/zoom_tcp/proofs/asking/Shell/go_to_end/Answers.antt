use Rattle.zoom_tcp.proofs.Ending.{over_ends, given_up_ends}
use Rattle.zoom_tcp.proofs.asking.Shell.go_to_end.Goals as goal

pub returns-then-branch : goal.returns-then-branch
returns-then-branch g c =
    over_ends g.T.Write.contents c.args.recorder.now c.go.new.recorder c.in_ok-go.ensures.recorded
    (c.in_ok-go.ensures.over c.if-branch.true)

pub returns : goal.returns
returns g c =
    given_up_ends g.T.Write.contents c.go.new.self.now c.args.recorder.now c.go.new.recorder c.give_up.new.self
    c.given_up_law.ensures c.in_ok-go.ensures.recorded c.in_ok-give_up.ensures
