use Rattle.std.proofs.Common.{refl, sym, subst, ◌∙◌, arith, inl}
use Rattle.zoom_clock.specs.Wakes.{IsDueAt}
use Rattle.zoom_clock.specs.declared.signal.Signal.TheVariants as signals
use Rattle.zoom_asking.specs.Inquiries.{Passed}
use Rattle.zoom_asking.proofs.Ticking.{Ticked, started, ticked, all_entered, all_ticked}
use Rattle.zoom_asking.proofs.asking.Asking.tick.Goals as goal

pub loop-c-init : goal.loop-c-init
loop-c-init c =
    started (Ticked c.pass-at.result) c.pass-at.result c.args.self.now _ refl refl c.pass-at.ensures.courses
    c.pass-at.ensures.queue c.pass-at.ensures.in_order c.pass-at.ensures.orderly (sym c.pass-at.ensures.time)
    (λ i d q h. inl refl)

pub loop-c-smaller : goal.loop-c-smaller
loop-c-smaller c =
    let wakes = c.loop-c.self.clock.wakes in
    let due = subst (λ t. IsDueAt wakes t c.in-Some.c) c.loop-c.invariant.passed c.in-Some.ensures.some in
    let e = c.in_ok-tell.ensures.fewer refl due in
    omega arith

pub loop-c-preserved : goal.loop-c-preserved
loop-c-preserved c =
    ticked c.in-Some.c c.pass-at.result c.args.self.now c.loop-c.self c.tell.new.self c.pass-at.type_inv
    c.loop-c.invariant (let w = c.in-Some.ensures.within in let k = c.loop-c.self.clocked in omega arith)
    c.in-Some.ensures.some c.in_ok-tell.ensures.told c.in_ok-tell.ensures.passed c.in_ok-tell.ensures.size

pub returns-in_err-tell-clause-size : goal.returns-in_err-tell-clause-size
returns-in_err-tell-clause-size c = c.tell.ensures.size ∙ c.loop-c.invariant.size

pub returns-in_err-take_turns-clause-size : goal.returns-in_err-take_turns-clause-size
returns-in_err-take_turns-clause-size c = c.take_turns.ensures.size ∙ c.loop-c.invariant.size

pub returns-clause-after : goal.returns-clause-after
returns-clause-after c =
    all_entered (Passed c.args.now) (Ticked c.pass-at.result) c.args.now c.pass-at.result signals.Tick c.args.self.now
    c.loop-c.self c.take_turns.new.self (λ d p. refl) (λ p. refl) (λ s xs. refl)
    (c.pass-at.ensures.time ∙ c.pass-at.ensures.passed) c.loop-c.invariant
    (all_ticked c.pass-at.result c.loop-c.self c.loop-c.invariant.passed c.in_default.ensures.none)
    c.in_ok-take_turns.ensures.turned c.in_ok-take_turns.ensures.passed

pub returns-clause-size : goal.returns-clause-size
returns-clause-size c = c.take_turns.ensures.size ∙ c.loop-c.invariant.size
