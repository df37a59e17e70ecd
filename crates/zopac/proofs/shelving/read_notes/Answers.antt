use Rattle.std.proofs.lemmas.Result.{err_from_is_err_and}
use Rattle.zasn.proofs.Steps.{then_fails, fails_now, optional_fails}
use Rattle.zopac.specs.Shelvings.{notes_parts}
use Rattle.zopac.proofs.shelving.read_notes.Goals as goal

pub returns-in_err-volumes-clause-finds : goal.returns-in_err-volumes-clause-finds
unfolding notes_parts
returns-in_err-volumes-clause-finds c =
    let p = err_from_is_err_and c.from_residual-in_err-volumes.result c.from_residual-in_err-volumes.ensures.1 in
    let e = c.in_err-volumes.field-0.0 in
    let note = rw c.context.ensures at c.in_ok-public_note.ensures.takes in
    let reproduction = rw c.context-2.ensures at c.in_ok-reproduction_note.ensures.takes in
    let terms = rw c.context-3.ensures at c.in_ok-terms_of_use.ensures.takes in
    let chronology = rw c.context-4.ensures at c.in_ok-enumeration_and_chronology.ensures.takes in
    rw (p.1, p.2) (then_fails _ _ _ e _ note (then_fails _ _ _ e _ reproduction (then_fails _ _ _ e _ terms
    (then_fails _ _ _ e _ chronology
    (optional_fails _ _ _ _ _ e _ c.context-5.ensures c.in_err-volumes.ensures.takes)))))

pub returns-in_err-circulations-clause-finds : goal.returns-in_err-circulations-clause-finds
unfolding notes_parts
returns-in_err-circulations-clause-finds c =
    let p = err_from_is_err_and c.from_residual-in_err-circulations.result
    c.from_residual-in_err-circulations.ensures.1 in
    let e = c.in_err-circulations.field-0.0 in
    let note = rw c.context.ensures at c.in_ok-public_note.ensures.takes in
    let reproduction = rw c.context-2.ensures at c.in_ok-reproduction_note.ensures.takes in
    let terms = rw c.context-3.ensures at c.in_ok-terms_of_use.ensures.takes in
    let chronology = rw c.context-4.ensures at c.in_ok-enumeration_and_chronology.ensures.takes in
    let volumes = rw c.context-5.ensures at c.in_ok-volumes.ensures.takes in
    rw (p.1, p.2) (then_fails _ _ _ e _ note (then_fails _ _ _ e _ reproduction (then_fails _ _ _ e _ terms
    (then_fails _ _ _ e _ chronology (then_fails _ _ _ e _ volumes
    (optional_fails _ _ _ _ _ e _ c.context-6.ensures c.in_err-circulations.ensures.takes))))))

pub returns-in_err-end-clause-finds : goal.returns-in_err-end-clause-finds
unfolding notes_parts
returns-in_err-end-clause-finds c =
    let p = err_from_is_err_and c.from_residual-in_err-end.result c.from_residual-in_err-end.ensures.1 in
    let e = c.in_err-end.field-0.0 in
    let note = rw c.context.ensures at c.in_ok-public_note.ensures.takes in
    let reproduction = rw c.context-2.ensures at c.in_ok-reproduction_note.ensures.takes in
    let terms = rw c.context-3.ensures at c.in_ok-terms_of_use.ensures.takes in
    let chronology = rw c.context-4.ensures at c.in_ok-enumeration_and_chronology.ensures.takes in
    let volumes = rw c.context-5.ensures at c.in_ok-volumes.ensures.takes in
    let circulations = rw c.context-6.ensures at c.in_ok-circulations.ensures.takes in
    rw (p.1, p.2) (then_fails _ _ _ e _ note (then_fails _ _ _ e _ reproduction (then_fails _ _ _ e _ terms
    (then_fails _ _ _ e _ chronology (then_fails _ _ _ e _ volumes (then_fails _ _ _ e _ circulations
    (fails_now _ _ e _ c.in_err-end.ensures.finds)))))))
