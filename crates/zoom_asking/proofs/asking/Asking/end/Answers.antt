use Rattle.std.proofs.Common.{false, refl}
use Rattle.zoom_asking.specs.Talks.{IsClosed}
use Rattle.zoom_asking.proofs.TalkedOn.{quietly}
use Rattle.zoom_asking.proofs.asking.Asking.end.Goals as goal

pub returns-clause-talked : goal.returns-clause-talked
returns-clause-talked c =
    quietly c.args.c (IsClosed c.args.ending) false c.args.self.now _ refl refl c.in_ok-close.ensures.closed
