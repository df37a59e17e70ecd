use Rattle.std.proofs.Common.{rules}
use Rattle.zasn.proofs.Steps.{then_goes}
use Rattle.zapdu.specs.Productions.SearchRequests.{search_request_parts}
use Rattle.zapdu.proofs.productions.search_request.SearchRequestProduction.read.Goals as goal

pub returns-clause-finds : goal.returns-clause-finds
unfolding search_request_parts
returns-clause-finds c =
    let reference_id = rw c.context.ensures at c.in_ok-reference_id.ensures.takes in
    let small = rw c.context-2.ensures at c.in_ok-small_set_upper_bound.ensures.takes in
    let large = rw c.context-3.ensures at c.in_ok-large_set_lower_bound.ensures.takes in
    let medium = rw c.context-4.ensures at c.in_ok-medium_set_present_number.ensures.takes in
    let replace = rw c.context-5.ensures at c.in_ok-replace_indicator.ensures.takes in
    let name = rw c.context-6.ensures at c.in_ok-result_set_name.ensures.takes in
    let databases = rw (c.context-7.ensures, c.context-8.ensures) at c.in_ok-database_names.ensures.takes in
    then_goes _ _ _ _ reference_id (then_goes _ _ _ _ small (then_goes _ _ _ _ large (then_goes _ _ _ _ medium (then_goes _ _ _ _ replace (then_goes _ _ _ _ name (then_goes _ _ _ _ databases (then_goes _ _ _ _ c.in_ok-small_set_element_set_names.ensures.finds (search rules))))))))
