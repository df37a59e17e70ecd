use Rattle.zoom_asking.proofs.Settling.{over_at}
use Rattle.zoom_asking.proofs.asking.Asking.is_over.Goals as goal

pub returns : goal.returns
returns c i history a =
    over_at c.is_over.result c.args.self.now i history a (c.is_over.ensures.over a.holds.orderly) c.is_over.ensures.some
