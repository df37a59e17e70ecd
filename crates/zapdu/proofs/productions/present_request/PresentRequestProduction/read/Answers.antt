use Rattle.std.proofs.lemmas.Result.{err_from_is_err_and}
use Rattle.zasn.proofs.Steps.{then_fails, fails_now}
use Rattle.zapdu.specs.Productions.PresentRequests.{present_request_parts}
use Rattle.zapdu.proofs.productions.present_request.PresentRequestProduction.read.Goals as goal

pub returns-in_err-preferred_record_syntax-clause-finds : goal.returns-in_err-preferred_record_syntax-clause-finds
unfolding present_request_parts
returns-in_err-preferred_record_syntax-clause-finds c =
    let p = err_from_is_err_and c.from_residual-in_err-preferred_record_syntax.result c.from_residual-in_err-preferred_record_syntax.ensures.1 in
    let e = c.in_err-preferred_record_syntax.field-0.0 in
    let reference_id = rw c.context.ensures at c.in_ok-reference_id.ensures.takes in
    let set = rw c.context-2.ensures at c.in_ok-result_set_id.ensures.takes in
    let start = rw c.context-3.ensures at c.in_ok-result_set_start_point.ensures.takes in
    let number = rw c.context-4.ensures at c.in_ok-number_of_records_requested.ensures.takes in
    let ranges = rw c.context-5.ensures at c.in_ok-additional_ranges.ensures.takes in
    rw (p.1, p.2) (then_fails _ _ _ e _ reference_id (then_fails _ _ _ e _ set (then_fails _ _ _ e _ start (then_fails _ _ _ e _ number (then_fails _ _ _ e _ ranges (then_fails _ _ _ e _ c.in_ok-record_composition.ensures.takes (fails_now _ _ e _ c.in_err-preferred_record_syntax.ensures.finds)))))))
