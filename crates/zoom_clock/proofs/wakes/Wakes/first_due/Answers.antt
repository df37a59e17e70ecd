use Rattle.std.proofs.Common.{◌≡◌, ◌≤◌, arith}
use Rattle.zoom_clock.proofs.Order.{IsFirst, first_is, none_is}
use Rattle.zoom_clock.proofs.wakes.Wakes.first_due.Goals as goal
use Rattle.zoom_clock.proofs.wakes.Wakes.first_due.Goals.{In_ok-time}

first : (c : In_ok-time) → IsFirst c.args.self.now c.in_ok-time.field-0.now
first c =
    let is = c.in_ok-time.ensures in
    first_is c.self.inside c.args.self.now c.in_ok-time.field-0.now c.self.view_is c.self.invariant is.member is.least

pub returns-in_err-time-clause-none : goal.returns-in_err-time-clause-none
returns-in_err-time-clause-none c =
    let is = c.in_err-time.ensures in
    let none = none_is c.self.inside c.args.self.now c.self.view_is c.self.invariant (λ h. cc (is.variant.1 h)) in
    rw c.from_residual.ensures (λ d t h. absurd (none d t h))

pub returns-then-time-now-clause-some : goal.returns-then-time-now-clause-some
returns-then-time-now-clause-some c =
    let of = first (goal.at.returns-then-time-now-clause-some c).In_ok-time in
    (c.in_ok-time.field-0.now.0, of.has, c.if-time-now.true)

pub returns-then-time-now-clause-least : goal.returns-then-time-now-clause-least
returns-then-time-now-clause-least c =
    let of = first (goal.at.returns-then-time-now-clause-least c).In_ok-time in
    λ t h d u g.
    let same : t ≡ c.in_ok-time.field-0.now.0 = cc (of.has, h) in
    let le : c.in_ok-time.field-0.now.0 ≤ u = of.least d u g in
    omega arith

pub returns-else-time-now-clause-none : goal.returns-else-time-now-clause-none
returns-else-time-now-clause-none c =
    let of = first (goal.at.returns-else-time-now-clause-none c).In_ok-time in
    λ d u g.
    let le : c.in_ok-time.field-0.now.0 ≤ u = of.least d u g in
    omega (arith, c.if-time-now.false)
