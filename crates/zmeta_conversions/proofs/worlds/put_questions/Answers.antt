use Rattle.std.specs.List.{flat_map}
use Rattle.std.proofs.lemmas.Result.{err_from_is_err_and}
use Rattle.zmeta_conversions.specs.Worlds.{unsaid_question, ask_line, first_unsaid}
use Rattle.zmeta_conversions.proofs.Lines.{none_put, one_put, one_readable, all_put, all_readable, first_unsaid_is, refused_as}
use Rattle.zmeta_conversions.proofs.worlds.put_questions.Goals as goal

pub loop-asked-init : goal.loop-asked-init
loop-asked-init c = (none_put unsaid_question ask_line c.args.out.now.items, tt)

pub loop-asked-preserved : goal.loop-asked-preserved
loop-asked-preserved c = (
  one_put unsaid_question ask_line c.args.questions.now c.loop-asked.asked-index c.asked-item.result
      c.args.out.now.items c.loop-asked.out.items c.put_question.new.out.items
      c.loop-asked-test.true c.asked-item.is c.loop-asked.invariant.0 c.in_ok-put_question.ensures.put,
  one_readable c.args.questions.now c.loop-asked.asked-index c.asked-item.result c.loop-asked-test.true
      c.asked-item.is c.loop-asked.invariant.1 c.in_ok-put_question.ensures.readable,
)

pub returns-in_err-put_question-clause-put : goal.returns-in_err-put_question-clause-put
returns-in_err-put_question-clause-put c =
    let p = err_from_is_err_and c.from_residual.result c.from_residual.ensures.1 in
    refused_as (first_unsaid unsaid_question c.args.questions.now) (flat_map ask_line c.args.questions.now)
    c.args.out.now.items c.put_question.new.out.items c.in_err-put_question.field-0.0 p.0 c.from_residual.result p.1 p.2
    (first_unsaid_is unsaid_question ask_line c.args.questions.now c.loop-asked.asked-index c.asked-item.result
    c.args.out.now.items c.loop-asked.out.items c.in_err-put_question.field-0.0
    c.loop-asked-test.true c.asked-item.is c.loop-asked.invariant.0 c.in_err-put_question.ensures.put)

pub returns-clause-put : goal.returns-clause-put
returns-clause-put c =
    all_put unsaid_question ask_line c.args.questions.now c.loop-asked.asked-index c.args.out.now.items
    c.loop-asked.out.items c.loop-asked-test.false c.loop-asked.invariant.0

pub returns-clause-readable : goal.returns-clause-readable
returns-clause-readable c = all_readable c.args.questions.now c.loop-asked.asked-index c.loop-asked-test.false
    c.loop-asked.invariant.1
