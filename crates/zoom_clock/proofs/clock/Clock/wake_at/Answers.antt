use Rattle.zoom_clock.proofs.Keeping.{least_wake}
use Rattle.zoom_clock.proofs.clock.Clock.wake_at.Goals as goal

pub returns : goal.returns
returns c = least_wake c.args.self.now c.least.result c.least.ensures.some c.least.ensures.none
