use Rattle.zoom_clock.proofs.Order.{first_is, none_is}
use Rattle.zoom_clock.proofs.wakes.Wakes.least.Goals as goal

pub returns-in_err-time-clause-none : goal.returns-in_err-time-clause-none
returns-in_err-time-clause-none c =
    let is = c.in_err-time.ensures in
    let none = none_is c.self.inside c.args.self.now c.self.view_is c.self.invariant (λ h. cc (is.variant.1 h)) in
    rw c.from_residual.ensures none

pub returns-clause-some : goal.returns-clause-some
returns-clause-some c =
    let key = c.in_ok-time.field-0.now in
    let is = c.in_ok-time.ensures in
    let first = first_is c.self.inside c.args.self.now key c.self.view_is c.self.invariant is.member is.least in
    ((key.1, first.has), first.least)
