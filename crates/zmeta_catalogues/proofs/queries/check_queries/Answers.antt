use Rattle.std.proofs.lemmas.Result.{err_from_is_err_and}
use Rattle.zmeta_catalogues.specs.declared.fault.Key.TheVariants as keys
use Rattle.zmeta_catalogues.specs.Operands.{IsTextStop}
use Rattle.zmeta_catalogues.proofs.Prefixes.{term_stop, passed_on}
use Rattle.zmeta_catalogues.proofs.queries.check_queries.Goals as goal

pub returns-in_err-check_prefix-clause-err : goal.returns-in_err-check_prefix-clause-err
returns-in_err-check_prefix-clause-err c =
    let terms = c.args.catalogue.now.terms in
    let query = c.args.catalogue.now.query in
    let p = err_from_is_err_and c.from_residual.result c.from_residual.ensures.1 in
    passed_on (IsTextStop terms query) c.in_err-check_prefix.field-0.0 p.0 c.from_residual.result p.1 p.2
    (term_stop terms query keys.Title c.in_err-check_prefix.field-0.0 c.in_err-check_prefix.ensures.err)

pub returns-in_err-check_prefix-2-clause-err : goal.returns-in_err-check_prefix-2-clause-err
returns-in_err-check_prefix-2-clause-err c =
    let terms = c.args.catalogue.now.terms in
    let query = c.args.catalogue.now.query in
    let p = err_from_is_err_and c.from_residual-in_err-check_prefix-2.result c.from_residual-in_err-check_prefix-2.ensures.1 in
    passed_on (IsTextStop terms query) c.in_err-check_prefix-2.field-0.0 p.0 c.from_residual-in_err-check_prefix-2.result p.1 p.2
    (term_stop terms query keys.Author c.in_err-check_prefix-2.field-0.0 c.in_err-check_prefix-2.ensures.err)

pub returns-in_err-check_prefix-3-clause-err : goal.returns-in_err-check_prefix-3-clause-err
returns-in_err-check_prefix-3-clause-err c =
    let terms = c.args.catalogue.now.terms in
    let query = c.args.catalogue.now.query in
    let p = err_from_is_err_and c.from_residual-in_err-check_prefix-3.result c.from_residual-in_err-check_prefix-3.ensures.1 in
    passed_on (IsTextStop terms query) c.in_err-check_prefix-3.field-0.0 p.0 c.from_residual-in_err-check_prefix-3.result p.1 p.2
    (term_stop terms query keys.Subject c.in_err-check_prefix-3.field-0.0 c.in_err-check_prefix-3.ensures.err)

pub returns-in_err-check_prefix-4-clause-err : goal.returns-in_err-check_prefix-4-clause-err
returns-in_err-check_prefix-4-clause-err c =
    let terms = c.args.catalogue.now.terms in
    let query = c.args.catalogue.now.query in
    let p = err_from_is_err_and c.from_residual-in_err-check_prefix-4.result c.from_residual-in_err-check_prefix-4.ensures.1 in
    passed_on (IsTextStop terms query) c.in_err-check_prefix-4.field-0.0 p.0 c.from_residual-in_err-check_prefix-4.result p.1 p.2
    (term_stop terms query keys.Any c.in_err-check_prefix-4.field-0.0 c.in_err-check_prefix-4.ensures.err)

pub returns-in_err-check_prefix-5-clause-err : goal.returns-in_err-check_prefix-5-clause-err
returns-in_err-check_prefix-5-clause-err c =
    let terms = c.args.catalogue.now.terms in
    let query = c.args.catalogue.now.query in
    let p = err_from_is_err_and c.from_residual-in_err-check_prefix-5.result c.from_residual-in_err-check_prefix-5.ensures.1 in
    passed_on (IsTextStop terms query) c.in_err-check_prefix-5.field-0.0 p.0 c.from_residual-in_err-check_prefix-5.result p.1 p.2
    (term_stop terms query keys.Isbn c.in_err-check_prefix-5.field-0.0 c.in_err-check_prefix-5.ensures.err)

pub returns-in_err-check_prefix-6-clause-err : goal.returns-in_err-check_prefix-6-clause-err
returns-in_err-check_prefix-6-clause-err c =
    let terms = c.args.catalogue.now.terms in
    let query = c.args.catalogue.now.query in
    let p = err_from_is_err_and c.from_residual-in_err-check_prefix-6.result c.from_residual-in_err-check_prefix-6.ensures.1 in
    passed_on (IsTextStop terms query) c.in_err-check_prefix-6.field-0.0 p.0 c.from_residual-in_err-check_prefix-6.result p.1 p.2
    (term_stop terms query keys.Issn c.in_err-check_prefix-6.field-0.0 c.in_err-check_prefix-6.ensures.err)

pub returns-in_err-check_prefix-7-clause-err : goal.returns-in_err-check_prefix-7-clause-err
returns-in_err-check_prefix-7-clause-err c =
    let terms = c.args.catalogue.now.terms in
    let query = c.args.catalogue.now.query in
    let p = err_from_is_err_and c.from_residual-in_err-check_prefix-7.result c.from_residual-in_err-check_prefix-7.ensures.1 in
    passed_on (IsTextStop terms query) c.in_err-check_prefix-7.field-0.0 p.0 c.from_residual-in_err-check_prefix-7.result p.1 p.2
    (term_stop terms query keys.Year c.in_err-check_prefix-7.field-0.0 c.in_err-check_prefix-7.ensures.err)
