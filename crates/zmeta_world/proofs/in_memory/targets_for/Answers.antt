use Rattle.std.proofs.lemmas.Result.{err_from_is_err_and}
use Rattle.zmeta_world.specs.InMemoryRuns.{target_for}
use Rattle.zmeta_world.specs.Finding.{IsFirstUnfound}
use Rattle.zmeta_world.proofs.Finding.{one_found, first_at_none, refused_as}
use Rattle.zmeta_world.proofs.in_memory.targets_for.Goals as goal

pub loop-asked_question-preserved : goal.loop-asked_question-preserved
loop-asked_question-preserved c =
    one_found (target_for c.args.targets.now) c.args.asked_questions.now c.loop-asked_question.asked_question-index c.asked_question-item.result c.loop-asked_question.found.items c.add.new.all.items
    c.in_ok-target.target c.loop-asked_question-test.true c.asked_question-item.is c.loop-asked_question.invariant c.in_ok-target.ensures c.in_ok-add.ensures

pub returns-in_err-target-clause-fault : goal.returns-in_err-target-clause-fault
returns-in_err-target-clause-fault c =
    let p = err_from_is_err_and c.from_residual.result c.from_residual.ensures.1 in
    refused_as (IsFirstUnfound (target_for c.args.targets.now) c.args.asked_questions.now) c.in_err-target.field-0.0 p.0 c.from_residual.result p.1 p.2
    (first_at_none (target_for c.args.targets.now) c.args.asked_questions.now c.loop-asked_question.asked_question-index c.asked_question-item.result c.loop-asked_question.found.items c.in_err-target.field-0.0
    c.loop-asked_question-test.true c.asked_question-item.is c.loop-asked_question.invariant c.in_err-target.ensures)
