use Rattle.std.proofs.Common.{List, ℕ, length, subst, ◌∙◌}
use Rattle.std.proofs.lemmas.Result.{err_from_is_err_and}
use Rattle.zknow.specs.Saved.Fronts.{IsTakenFront}
use Rattle.zknow.proofs.SavedTheory.FrontElements.{taken_is, odd_is}
use Rattle.zknow_merge.proofs.FrontTheory.{node_fault, value_fault, odd_stays}
use Rattle.zknow_merge.proofs.front.take_front.Goals as goal

pub returns-in_err-node-clause-fault : goal.returns-in_err-node-clause-fault
returns-in_err-node-clause-fault g c =
    let p = err_from_is_err_and c.from_residual.result c.from_residual.ensures.1 in
    rw (p.1, p.2) (node_fault g.T.Tagged.place c.args.octets.now c.in_err-node.field-0.0 c.in_err-node.ensures)

pub returns-in_err-value-clause-fault : goal.returns-in_err-value-clause-fault
returns-in_err-value-clause-fault g c =
    let p = err_from_is_err_and c.from_residual-in_err-value.result c.from_residual-in_err-value.ensures.1 in
    rw (p.1, p.2) (value_fault g.T.Tagged.place c.args.octets.now c.in_err-value.field-0.0 (c.in_err-value.ensures c.args.octets.now c.in_ok-node.ensures))

pub returns-then-not-starts_with-clause-fault : goal.returns-then-not-starts_with-clause-fault
returns-then-not-starts_with-clause-fault g c =
    odd_stays g.T.Tagged.place c.args.octets.now
    (odd_is g.T.Tagged.place c.args.octets.now c.in_ok-value.value c.in_ok-canonical.ensures.lawful (c.in_ok-value.ensures c.args.octets.now c.in_ok-node.ensures)
    c.as_slice.result.now (c.as_slice.ensures.value ∙ c.in_ok-canonical.ensures.octets) c.starts_with.result c.starts_with.ensures.value c.if-not-starts_with.true)

pub returns-clause-taken : goal.returns-clause-taken
returns-clause-taken g c =
    let taken = taken_is g.T.Tagged.place c.args.octets.now c.in_ok-value.value c.in_ok-canonical.ensures.lawful (c.in_ok-value.ensures c.args.octets.now c.in_ok-node.ensures)
    c.as_slice.result.now (c.as_slice.ensures.value ∙ c.in_ok-canonical.ensures.octets) c.starts_with.result c.starts_with.ensures.value c.if-not-starts_with.false (c.starts_with.ensures.bound c.if-not-starts_with.false) in
    record {
      is = c.in_ok-canonical.ensures.octets;
      front = subst (λ (l : List ℕ). IsTakenFront g.T.Tagged.place c.args.octets.now c.in_ok-value.value (length l)) c.as_slice.ensures.value taken;
    }
