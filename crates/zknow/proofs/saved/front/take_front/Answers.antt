use Rattle.std.proofs.Common.{sym, subst, ◌∙◌}
use Rattle.zknow.specs.Saved.Fronts.{IsFrontValue, IsTakenFront}
use Rattle.zknow.proofs.SavedTheory.FrontElements.{taken_is, odd_is}
use Rattle.zknow.proofs.saved.front.take_front.Goals as goal

pub returns-then-not-starts_with-clause-fault : goal.returns-then-not-starts_with-clause-fault
returns-then-not-starts_with-clause-fault g c =
    odd_is g.T.Tagged.place c.args.octets.now c.in-Some.value c.in_ok-canonical.ensures.lawful (subst (IsFrontValue g.T.Tagged.place c.args.octets.now) c.in-Some.is c.in_ok-value.ensures)
    c.as_slice.result.now (c.as_slice.ensures.value ∙ c.in_ok-canonical.ensures.octets) c.starts_with.result c.starts_with.ensures.value c.if-not-starts_with.true

pub returns-clause-taken : goal.returns-clause-taken
returns-clause-taken g c =
    let taken = taken_is g.T.Tagged.place c.args.octets.now c.in-Some.value c.in_ok-canonical.ensures.lawful (subst (IsFrontValue g.T.Tagged.place c.args.octets.now) c.in-Some.is c.in_ok-value.ensures)
    c.as_slice.result.now (c.as_slice.ensures.value ∙ c.in_ok-canonical.ensures.octets) c.starts_with.result c.starts_with.ensures.value c.if-not-starts_with.false (c.starts_with.ensures.bound c.if-not-starts_with.false) in
    subst (IsTakenFront g.T.Tagged.place c.args.octets.now c.in-Some.value) (c.as_slice.ensures.len ∙ sym c.len.ensures) taken
