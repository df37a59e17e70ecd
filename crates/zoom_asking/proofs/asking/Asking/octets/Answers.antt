use Rattle.std.proofs.Common.{◌∙◌}
use Rattle.zoom_asking.specs.Inquiries.{Came}
use Rattle.zoom_asking.proofs.Entering.{one_entered}
use Rattle.zoom_asking.proofs.asking.Asking.octets.Goals as goal

pub returns-clause-after : goal.returns-clause-after
returns-clause-after c =
    one_entered c.args.c c.args.now c.time_of-at.result (Came c.args.piece.now) c.args.self.now c.feed.new.self
    c.take_turns.new.self
    c.time_of-at.ensures c.requires c.in_ok-feed.ensures.fed
    c.in_ok-take_turns.ensures.turned (c.in_ok-take_turns.ensures.passed ∙ c.in_ok-feed.ensures.passed)
