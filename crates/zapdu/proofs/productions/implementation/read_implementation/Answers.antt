use Rattle.std.proofs.lemmas.Result.{err_from_is_err_and}
use Rattle.zasn.proofs.Steps.{then_fails, fails_now, optional_fails}
use Rattle.zapdu.specs.Productions.Implementations.{implementation_parts}
use Rattle.zapdu.proofs.productions.implementation.read_implementation.Goals as goal

pub returns-in_err-other_info-clause-finds : goal.returns-in_err-other_info-clause-finds
unfolding implementation_parts
returns-in_err-other_info-clause-finds c =
    let p = err_from_is_err_and c.from_residual-in_err-other_info.result c.from_residual-in_err-other_info.ensures.1 in
    let e = c.in_err-other_info.field-0.0 in
    let id = rw c.context.ensures at c.in_ok-implementation_id.ensures.takes in
    let name = rw c.context-2.ensures at c.in_ok-implementation_name.ensures.takes in
    let version = rw c.context-3.ensures at c.in_ok-implementation_version.ensures.takes in
    let information = rw (c.context-4.ensures, c.universal.ensures) at c.in_ok-user_information_field.ensures.takes in
    rw (p.1, p.2) (then_fails _ _ _ e _ id (then_fails _ _ _ e _ name (then_fails _ _ _ e _ version (then_fails _ _ _ e _ information (optional_fails _ _ _ _ _ e _ c.context-5.ensures c.in_err-other_info.ensures.takes)))))

pub returns-in_err-end-clause-finds : goal.returns-in_err-end-clause-finds
unfolding implementation_parts
returns-in_err-end-clause-finds c =
    let p = err_from_is_err_and c.from_residual-in_err-end.result c.from_residual-in_err-end.ensures.1 in
    let e = c.in_err-end.field-0.0 in
    let id = rw c.context.ensures at c.in_ok-implementation_id.ensures.takes in
    let name = rw c.context-2.ensures at c.in_ok-implementation_name.ensures.takes in
    let version = rw c.context-3.ensures at c.in_ok-implementation_version.ensures.takes in
    let information = rw (c.context-4.ensures, c.universal.ensures) at c.in_ok-user_information_field.ensures.takes in
    let other = rw c.context-5.ensures at c.in_ok-other_info.ensures.takes in
    rw (p.1, p.2) (then_fails _ _ _ e _ id (then_fails _ _ _ e _ name (then_fails _ _ _ e _ version (then_fails _ _ _ e _ information (then_fails _ _ _ e _ other (fails_now _ _ e _ c.in_err-end.ensures.finds))))))
