use Rattle.std.proofs.lemmas.Result.{err_from_is_err_and}
use Rattle.zmeta_world.specs.NetworkRuns.{address_for}
use Rattle.zmeta_world.specs.Finding.{IsFirstUnfound}
use Rattle.zmeta_world.proofs.Finding.{one_found, first_at_none, refused_as}
use Rattle.zmeta_world.proofs.network.addresses_for.Goals as goal

pub loop-asked_question-preserved : goal.loop-asked_question-preserved
loop-asked_question-preserved c =
    one_found (address_for c.args.hosts.now) c.args.asked_questions.now c.loop-asked_question.asked_question-index c.asked_question-item.result c.loop-asked_question.found.items c.add.new.all.items
    c.in_ok-address.address c.loop-asked_question-test.true c.asked_question-item.is c.loop-asked_question.invariant c.in_ok-address.ensures c.in_ok-add.ensures

pub returns-in_err-address-clause-fault : goal.returns-in_err-address-clause-fault
returns-in_err-address-clause-fault c =
    let p = err_from_is_err_and c.from_residual.result c.from_residual.ensures.1 in
    refused_as (IsFirstUnfound (address_for c.args.hosts.now) c.args.asked_questions.now) c.in_err-address.field-0.0 p.0 c.from_residual.result p.1 p.2
    (first_at_none (address_for c.args.hosts.now) c.args.asked_questions.now c.loop-asked_question.asked_question-index c.asked_question-item.result c.loop-asked_question.found.items c.in_err-address.field-0.0
    c.loop-asked_question-test.true c.asked_question-item.is c.loop-asked_question.invariant c.in_err-address.ensures)
