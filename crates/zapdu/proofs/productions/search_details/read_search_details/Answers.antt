use Rattle.std.proofs.Common.{refl}
use Rattle.std.proofs.lemmas.Result.{err_from_is_err_and}
use Rattle.zasn.proofs.Steps.{then_fails, then_goes, fails_now, takes_fails, optional_fails}
use Rattle.zapdu.specs.Productions.SearchDetails.{search_details_parts}
use Rattle.zapdu.proofs.productions.search_details.read_search_details.Goals as goal

pub returns-in_err-preferred_record_syntax-clause-finds : goal.returns-in_err-preferred_record_syntax-clause-finds
unfolding search_details_parts
returns-in_err-preferred_record_syntax-clause-finds c =
    let p = err_from_is_err_and c.from_residual-in_err-preferred_record_syntax.result c.from_residual-in_err-preferred_record_syntax.ensures.1 in
    let e = c.in_err-preferred_record_syntax.field-0.0 in
    let small = rw c.context.ensures at c.in_ok-small_set_element_set_names.ensures.takes in
    let medium = rw c.context-2.ensures at c.in_ok-medium_set_element_set_names.ensures.takes in
    rw (p.1, p.2) (then_fails _ _ _ e _ small (then_fails _ _ _ e _ medium (optional_fails _ _ _ _ _ e _ c.context-3.ensures c.in_err-preferred_record_syntax.ensures.takes)))

pub returns-in_err-query-clause-finds : goal.returns-in_err-query-clause-finds
unfolding search_details_parts
returns-in_err-query-clause-finds c =
    let p = err_from_is_err_and c.from_residual-in_err-query.result c.from_residual-in_err-query.ensures.1 in
    let e = c.in_err-query.field-0.0 in
    let small = rw c.context.ensures at c.in_ok-small_set_element_set_names.ensures.takes in
    let medium = rw c.context-2.ensures at c.in_ok-medium_set_element_set_names.ensures.takes in
    let syntax = rw c.context-3.ensures at c.in_ok-preferred_record_syntax.ensures.takes in
    rw (p.1, p.2) (then_fails _ _ _ e _ small (then_fails _ _ _ e _ medium (then_fails _ _ _ e _ syntax (takes_fails _ _ e _ c.in_err-query.ensures.takes))))

pub returns-in_err-additional_search_info-clause-finds : goal.returns-in_err-additional_search_info-clause-finds
unfolding search_details_parts
returns-in_err-additional_search_info-clause-finds c =
    let p = err_from_is_err_and c.from_residual-in_err-additional_search_info.result c.from_residual-in_err-additional_search_info.ensures.1 in
    let e = c.in_err-additional_search_info.field-0.0 in
    let small = rw c.context.ensures at c.in_ok-small_set_element_set_names.ensures.takes in
    let medium = rw c.context-2.ensures at c.in_ok-medium_set_element_set_names.ensures.takes in
    let syntax = rw c.context-3.ensures at c.in_ok-preferred_record_syntax.ensures.takes in
    rw (p.1, p.2) (then_fails _ _ _ e _ small (then_fails _ _ _ e _ medium (then_fails _ _ _ e _ syntax (then_fails _ _ _ e _ c.in_ok-query.ensures.takes (optional_fails _ _ _ _ _ e _ c.context-4.ensures c.in_err-additional_search_info.ensures.takes)))))

pub returns-in_err-other_info-clause-finds : goal.returns-in_err-other_info-clause-finds
unfolding search_details_parts
returns-in_err-other_info-clause-finds c =
    let p = err_from_is_err_and c.from_residual-in_err-other_info.result c.from_residual-in_err-other_info.ensures.1 in
    let e = c.in_err-other_info.field-0.0 in
    let small = rw c.context.ensures at c.in_ok-small_set_element_set_names.ensures.takes in
    let medium = rw c.context-2.ensures at c.in_ok-medium_set_element_set_names.ensures.takes in
    let syntax = rw c.context-3.ensures at c.in_ok-preferred_record_syntax.ensures.takes in
    let info = rw c.context-4.ensures at c.in_ok-additional_search_info.ensures.takes in
    rw (p.1, p.2) (then_fails _ _ _ e _ small (then_fails _ _ _ e _ medium (then_fails _ _ _ e _ syntax (then_fails _ _ _ e _ c.in_ok-query.ensures.takes (then_fails _ _ _ e _ info (optional_fails _ _ _ _ _ e _ c.context-5.ensures c.in_err-other_info.ensures.takes))))))

pub returns-in_err-end-clause-finds : goal.returns-in_err-end-clause-finds
unfolding search_details_parts
returns-in_err-end-clause-finds c =
    let p = err_from_is_err_and c.from_residual-in_err-end.result c.from_residual-in_err-end.ensures.1 in
    let e = c.in_err-end.field-0.0 in
    let small = rw c.context.ensures at c.in_ok-small_set_element_set_names.ensures.takes in
    let medium = rw c.context-2.ensures at c.in_ok-medium_set_element_set_names.ensures.takes in
    let syntax = rw c.context-3.ensures at c.in_ok-preferred_record_syntax.ensures.takes in
    let info = rw c.context-4.ensures at c.in_ok-additional_search_info.ensures.takes in
    let other = rw c.context-5.ensures at c.in_ok-other_info.ensures.takes in
    rw (p.1, p.2) (then_fails _ _ _ e _ small (then_fails _ _ _ e _ medium (then_fails _ _ _ e _ syntax (then_fails _ _ _ e _ c.in_ok-query.ensures.takes (then_fails _ _ _ e _ info (then_fails _ _ _ e _ other (fails_now _ _ e _ c.in_err-end.ensures.finds)))))))

pub returns-clause-finds : goal.returns-clause-finds
unfolding search_details_parts
returns-clause-finds c =
    let small = rw c.context.ensures at c.in_ok-small_set_element_set_names.ensures.takes in
    let medium = rw c.context-2.ensures at c.in_ok-medium_set_element_set_names.ensures.takes in
    let syntax = rw c.context-3.ensures at c.in_ok-preferred_record_syntax.ensures.takes in
    let info = rw c.context-4.ensures at c.in_ok-additional_search_info.ensures.takes in
    let other = rw c.context-5.ensures at c.in_ok-other_info.ensures.takes in
    then_goes _ _ _ _ small (then_goes _ _ _ _ medium (then_goes _ _ _ _ syntax (then_goes _ _ _ _ c.in_ok-query.ensures.takes (then_goes _ _ _ _ info (then_goes _ _ _ _ other (then_goes _ _ _ _ c.in_ok-end.ensures.finds (refl)))))))
