use Rattle.std.proofs.Common.{◌∙◌}
use Rattle.zoom_asking.specs.Inquiries.{inquiry}
use Rattle.zoom_asking.proofs.Starting.{started}
use Rattle.zoom_asking.proofs.asking.Asking.new.Goals as goal

pub returns-clause-after : goal.returns-clause-after
returns-clause-after c =
    let i = inquiry c.args.questions c.args.settings c.args.hosts.now c.args.manner c.args.total c.args.now in
    let clock = c.in_ok-clock.ensures in
    started i _ c.deref.result.now _ c.is_in_order.result (c.deref.ensures.value ∙ c.in_ok-plans.ensures)
    c.is_in_order.ensures c.in_ok-meta.ensures.after c.requires.equal clock.courses clock.tasks clock.orderly
    clock.in_order
    c.in_ok-unsent.ensures c.take_turns.new.self c.in_ok-take_turns.ensures.turned clock.passed
    c.in_ok-take_turns.ensures.passed
