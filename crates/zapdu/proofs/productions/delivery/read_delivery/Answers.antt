use Rattle.std.proofs.lemmas.Result.{err_from_is_err_and}
use Rattle.zasn.proofs.Steps.{then_fails, fails_now, optional_fails}
use Rattle.zapdu.specs.Productions.Deliveries.{delivery_parts}
use Rattle.zapdu.proofs.productions.delivery.read_delivery.Goals as goal

pub returns-in_err-other_info-clause-finds : goal.returns-in_err-other_info-clause-finds
unfolding delivery_parts
returns-in_err-other_info-clause-finds c =
    let p = err_from_is_err_and c.from_residual-in_err-other_info.result c.from_residual-in_err-other_info.ensures.1 in
    let e = c.in_err-other_info.field-0.0 in
    let syntax = rw c.context.ensures at c.in_ok-preferred_record_syntax.ensures.takes in
    let segments = rw c.context-2.ensures at c.in_ok-max_segment_count.ensures.takes in
    let record_size = rw c.context-3.ensures at c.in_ok-max_record_size.ensures.takes in
    let segment_size = rw c.context-4.ensures at c.in_ok-max_segment_size.ensures.takes in
    rw (p.1, p.2) (then_fails _ _ _ e _ syntax (then_fails _ _ _ e _ segments (then_fails _ _ _ e _ record_size (then_fails _ _ _ e _ segment_size (optional_fails _ _ _ _ _ e _ c.context-5.ensures c.in_err-other_info.ensures.takes)))))

pub returns-in_err-end-clause-finds : goal.returns-in_err-end-clause-finds
unfolding delivery_parts
returns-in_err-end-clause-finds c =
    let p = err_from_is_err_and c.from_residual-in_err-end.result c.from_residual-in_err-end.ensures.1 in
    let e = c.in_err-end.field-0.0 in
    let syntax = rw c.context.ensures at c.in_ok-preferred_record_syntax.ensures.takes in
    let segments = rw c.context-2.ensures at c.in_ok-max_segment_count.ensures.takes in
    let record_size = rw c.context-3.ensures at c.in_ok-max_record_size.ensures.takes in
    let segment_size = rw c.context-4.ensures at c.in_ok-max_segment_size.ensures.takes in
    let other = rw c.context-5.ensures at c.in_ok-other_info.ensures.takes in
    rw (p.1, p.2) (then_fails _ _ _ e _ syntax (then_fails _ _ _ e _ segments (then_fails _ _ _ e _ record_size (then_fails _ _ _ e _ segment_size (then_fails _ _ _ e _ other (fails_now _ _ e _ c.in_err-end.ensures.finds))))))
