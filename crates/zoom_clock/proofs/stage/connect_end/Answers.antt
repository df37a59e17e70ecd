use Rattle.std.proofs.Common.{◌+◌}
use Rattle.zoom_clock.specs.Times.{total_end}
use Rattle.zoom_clock.proofs.stage.connect_end.Goals as goal

pub returns : goal.returns
returns c =
    c.earlier_of.ensures (c.args.began + c.args.limits.now.connect) (total_end c.args.limits.now.total c.args.start)
    c.later.ensures c.total_end.ensures
