use Rattle.std.proofs.Common.{refl}
use Rattle.zoom_pool.specs.declared.state.Reason.TheVariants as reasons
use Rattle.zoom_clock.specs.declared.signal.Ending.TheVariants as endings
use Rattle.zoom_asking.proofs.Closing.{closed_by, closed_at_end}
use Rattle.zoom_asking.proofs.talk.close.Goals as goal

pub returns-in-Connect-clause-closed : goal.returns-in-Connect-clause-closed
returns-in-Connect-clause-closed c =
    closed_by c.args.c reasons.Connect c.args.ending endings.Connect c.args.meta.now c.stop.new.self c.in-Connect.is
    (λ events. refl) c.stop.ensures.after

pub returns-in-Read-clause-closed : goal.returns-in-Read-clause-closed
returns-in-Read-clause-closed c =
    closed_by c.args.c reasons.Read c.args.ending endings.Read c.args.meta.now c.stop-in-Read.new.self c.in-Read.is
    (λ events. refl) c.stop-in-Read.ensures.after

pub returns-in-Write-clause-closed : goal.returns-in-Write-clause-closed
returns-in-Write-clause-closed c =
    closed_by c.args.c reasons.Write c.args.ending endings.Write c.args.meta.now c.stop-in-Write.new.self
    c.in-Write.is (λ events. refl) c.stop-in-Write.ensures.after

pub returns-in-Turns-clause-closed : goal.returns-in-Turns-clause-closed
returns-in-Turns-clause-closed c =
    closed_by c.args.c reasons.Turns c.args.ending endings.Turns c.args.meta.now c.stop-in-Turns.new.self
    c.in-Turns.is (λ events. refl) c.stop-in-Turns.ensures.after

pub returns-in_ok-take-in-InputEnded-clause-closed : goal.returns-in_ok-take-in-InputEnded-clause-closed
returns-in_ok-take-in-InputEnded-clause-closed c =
    closed_at_end c.args.c c.in_ok-take-in-InputEnded.field-0 c.args.ending c.args.meta.now c.end.new.self
    c.take.new.meta c.in-InputEnded.is c.end.ensures.after c.in_ok-take-in-InputEnded.ensures.received
