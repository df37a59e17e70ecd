use Rattle.std.proofs.Common.{sym, subst}
use Rattle.zoom_clock.specs.declared.stage.Stage.{Stage}
use Rattle.zoom_clock.specs.Stages.{connect_end, wake_in}
use Rattle.zoom_clock.specs.Attempts.{next_at}
use Rattle.zoom_clock.specs.Times.{IsTime}
use Rattle.zoom_clock.proofs.stage.Stage.wake_at.Goals as goal

pub returns-in-Connecting : goal.returns-in-Connecting
returns-in-Connecting c =
    subst (λ (s : Stage). IsTime (wake_in c.args.limits.now c.args.start c.args.wanted s) c.earlier_of.result)
    (sym c.in-Connecting.is)
    (c.earlier_of.ensures (connect_end c.args.limits.now c.args.start c.in-Connecting.attempts.began)
    (next_at c.in-Connecting.attempts)
    c.connect_end.ensures c.next_at.ensures)
