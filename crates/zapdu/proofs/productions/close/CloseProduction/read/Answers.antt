use Rattle.std.proofs.lemmas.Result.{err_from_is_err_and}
use Rattle.zasn.proofs.Steps.{then_fails, fails_now, optional_fails}
use Rattle.zapdu.specs.Productions.Closes.{close_parts}
use Rattle.zapdu.proofs.productions.close.CloseProduction.read.Goals as goal

pub returns-in_err-other_info-clause-finds : goal.returns-in_err-other_info-clause-finds
unfolding close_parts
returns-in_err-other_info-clause-finds c =
    let p = err_from_is_err_and c.from_residual-in_err-other_info.result c.from_residual-in_err-other_info.ensures.1 in
    let e = c.in_err-other_info.field-0.0 in
    let reference_id = rw c.context.ensures at c.in_ok-reference_id.ensures.takes in
    let close_reason = rw c.context-2.ensures at c.in_ok-close_reason.ensures.takes in
    let information = rw c.context-3.ensures at c.in_ok-diagnostic_information.ensures.takes in
    let format = rw c.context-4.ensures at c.in_ok-resource_report_format.ensures.takes in
    let report = rw (c.context-5.ensures, c.universal.ensures) at c.in_ok-resource_report.ensures.takes in
    rw (p.1, p.2) (then_fails _ _ _ e _ reference_id (then_fails _ _ _ e _ close_reason (then_fails _ _ _ e _ information (then_fails _ _ _ e _ format (then_fails _ _ _ e _ report (optional_fails _ _ _ _ _ e _ c.context-6.ensures c.in_err-other_info.ensures.takes))))))

pub returns-in_err-end-clause-finds : goal.returns-in_err-end-clause-finds
unfolding close_parts
returns-in_err-end-clause-finds c =
    let p = err_from_is_err_and c.from_residual-in_err-end.result c.from_residual-in_err-end.ensures.1 in
    let e = c.in_err-end.field-0.0 in
    let reference_id = rw c.context.ensures at c.in_ok-reference_id.ensures.takes in
    let close_reason = rw c.context-2.ensures at c.in_ok-close_reason.ensures.takes in
    let information = rw c.context-3.ensures at c.in_ok-diagnostic_information.ensures.takes in
    let format = rw c.context-4.ensures at c.in_ok-resource_report_format.ensures.takes in
    let report = rw (c.context-5.ensures, c.universal.ensures) at c.in_ok-resource_report.ensures.takes in
    let other = rw c.context-6.ensures at c.in_ok-other_info.ensures.takes in
    rw (p.1, p.2) (then_fails _ _ _ e _ reference_id (then_fails _ _ _ e _ close_reason (then_fails _ _ _ e _ information (then_fails _ _ _ e _ format (then_fails _ _ _ e _ report (then_fails _ _ _ e _ other (fails_now _ _ e _ c.in_err-end.ensures.finds)))))))
