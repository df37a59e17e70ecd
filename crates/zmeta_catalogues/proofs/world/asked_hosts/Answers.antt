use Rattle.std.proofs.lemmas.Result.{err_from_is_err_and}
use Rattle.zmeta_catalogues.specs.Asked.{asked_search}
use Rattle.zmeta_catalogues.specs.AskErrors.{AreAskErrors}
use Rattle.zmeta_catalogues.proofs.Asking.{none_asked, next_asked, all_asked, not_asked, refused}
use Rattle.zmeta_catalogues.proofs.world.asked_hosts.Goals as goal

pub catalogues-init : goal.catalogues-init
catalogues-init c =
    none_asked (asked_search c.args.search.now) c.args.catalogues.now c.new-hosts.result.items
    c.new-questions.result.items
    c.new-hosts.ensures.items c.new-questions.ensures.items

pub catalogues-preserved : goal.catalogues-preserved
catalogues-preserved c =
    let at = c.catalogues in
    next_asked (asked_search c.args.search.now) c.args.catalogues.now at.at at.hosts.items c.push.new.self.items
    at.questions.items c.push-in-catalogues.new.self.items c.index-catalogues-at.result
    c.in_ok-host_of.field-0 c.in_ok-question.question
    c.catalogues-test.true c.index-catalogues-at.is c.in_ok-host_of.ensures c.in_ok-question.ensures.ok
    c.in_ok-question.ensures.askable c.in_ok-push.ensures.items c.in_ok-push-2.ensures.items at.invariant

pub returns-in_err-question-clause-err : goal.returns-in_err-question-clause-err
returns-in_err-question-clause-err c =
    let p = err_from_is_err_and c.from_residual.result c.from_residual.ensures.1 in
    refused (AreAskErrors (asked_search c.args.search.now) c.args.catalogues.now) c.in_err-question.field-0.0 p.0
    c.from_residual.result p.1 p.2
    (not_asked (asked_search c.args.search.now) c.args.catalogues.now c.catalogues.at c.index-catalogues-at.result
    c.in_err-question.field-0.0 c.catalogues-test.true c.index-catalogues-at.is c.in_err-question.ensures.err)

pub returns-clause-ok : goal.returns-clause-ok
returns-clause-ok c =
    all_asked (asked_search c.args.search.now) c.args.catalogues.now c.catalogues.at c.catalogues.hosts.items
    c.catalogues.questions.items c.catalogues-test.false c.catalogues.auto.at-end c.catalogues.invariant
