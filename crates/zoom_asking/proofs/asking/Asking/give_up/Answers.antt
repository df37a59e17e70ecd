use Rattle.std.proofs.Common.{refl, sym, ◌∙◌, arith, inr}
use Rattle.zoom_clock.specs.declared.signal.Signal.TheVariants as signals
use Rattle.zoom_asking.specs.Inquiries.{GivenUp}
use Rattle.zoom_asking.proofs.Ticking.{GaveUp, started, gave_up, all_entered, all_gave_up}
use Rattle.zoom_asking.proofs.asking.Asking.give_up.Goals as goal

pub loop-c-init : goal.loop-c-init
loop-c-init c =
    started (GaveUp 0 c.pass-at.result) c.pass-at.result c.args.self.now _ refl refl c.pass-at.ensures.courses
    c.pass-at.ensures.queue c.pass-at.ensures.in_order c.pass-at.ensures.orderly (sym c.pass-at.ensures.time)
    (λ i d q h. inr (omega arith, refl))

pub tell-requires : goal.tell-requires
tell-requires c =
    let s = c.loop-c.invariant.size in
    let e = c.connections-c-end.ensures in
    let t = c.loop-c-test.true in
    omega arith

pub returns-in_err-tell-clause-size : goal.returns-in_err-tell-clause-size
returns-in_err-tell-clause-size c = c.tell.ensures.size ∙ c.loop-c.invariant.size

pub loop-c-preserved : goal.loop-c-preserved
loop-c-preserved c =
    let s = c.loop-c.invariant.size in
    let e = c.connections-c-end.ensures in
    let t = c.loop-c-test.true in
    gave_up c.loop-c.c c.pass-at.result c.args.self.now c.loop-c.self c.tell.new.self c.loop-c.invariant (omega arith)
    c.in_ok-tell.ensures.told c.in_ok-tell.ensures.passed c.in_ok-tell.ensures.size

pub returns-in_err-take_turns-clause-size : goal.returns-in_err-take_turns-clause-size
returns-in_err-take_turns-clause-size c = c.take_turns.ensures.size ∙ c.loop-c.invariant.size

pub returns-clause-after : goal.returns-clause-after
returns-clause-after c =
    let s = c.loop-c.invariant.size in
    let e = c.connections-c-end.ensures in
    let f = c.loop-c-test.false in
    all_entered (GivenUp c.args.now) (GaveUp c.loop-c.c c.pass-at.result) c.args.now c.pass-at.result signals.GiveUp
    c.args.self.now c.loop-c.self c.take_turns.new.self (λ d p. refl) (λ p. refl) (λ s xs. refl)
    (c.pass-at.ensures.time ∙ c.pass-at.ensures.passed) c.loop-c.invariant
    (all_gave_up c.loop-c.c c.pass-at.result c.loop-c.self (omega arith))
    c.in_ok-take_turns.ensures.turned c.in_ok-take_turns.ensures.passed

pub returns-clause-size : goal.returns-clause-size
returns-clause-size c = c.take_turns.ensures.size ∙ c.loop-c.invariant.size
