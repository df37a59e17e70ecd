use Rattle.zoom_clock.specs.Stages.{silence_end}
use Rattle.zoom_clock.specs.Times.{total_end}
use Rattle.zoom_clock.proofs.talk.Talk.ends_at.Goals as goal

pub returns : goal.returns
returns c =
    c.earlier_of.ensures (silence_end c.args.limits.now c.args.wanted c.args.self.now)
    (total_end c.args.limits.now.total c.args.start) c.silent_at.ensures c.total_end.ensures
