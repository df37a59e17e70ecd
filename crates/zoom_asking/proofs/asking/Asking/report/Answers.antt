use Rattle.std.proofs.Common.{◌∙◌, subst}
use Rattle.zoom_asking.specs.Inquiries.{Noted, signal_of}
use Rattle.zoom_asking.specs.Askings.{IsOneTold}
use Rattle.zoom_asking.proofs.Entering.{one_entered}
use Rattle.zoom_asking.proofs.asking.Asking.report.Goals as goal

pub returns-clause-after : goal.returns-clause-after
returns-clause-after c =
    let old = c.args.self.now in
    one_entered c.args.c c.args.now c.time_of-at.result (Noted (signal_of c.args.what)) old c.tell.new.self
    c.take_turns.new.self
    c.time_of-at.ensures c.requires
    (subst (λ w. IsOneTold c.args.c c.time_of-at.result w old c.tell.new.self) c.signal_of.ensures
    c.in_ok-tell.ensures.told)
    c.in_ok-take_turns.ensures.turned (c.in_ok-take_turns.ensures.passed ∙ c.in_ok-tell.ensures.passed)
