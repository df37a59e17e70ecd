use Rattle.std.proofs.Common.{refl}
use Rattle.zoom_asking.proofs.TurnsTaken.{turned}
use Rattle.zoom_asking.proofs.asking.Asking.take_turns.Goals as goal

pub returns-clause-turned : goal.returns-clause-turned
returns-clause-turned c i hosts o =
    turned c.args.at c.args.self.now _ c.in_ok-take_turns.ensures.after refl refl i hosts o
