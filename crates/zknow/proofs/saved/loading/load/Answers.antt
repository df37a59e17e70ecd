use Rattle.std.proofs.lemmas.Result.{err_from_is_err_and}
use Rattle.zknow.proofs.SavedTheory.LoadExact.{saved_once, no_fault}
use Rattle.zknow.proofs.saved.loading.load.Goals as goal

pub returns-in_err-names-clause-exact : goal.returns-in_err-names-clause-exact
returns-in_err-names-clause-exact c =
    let p = err_from_is_err_and c.from_residual.result c.from_residual.ensures.1 in
    λ names facts is. rw (p.1, p.2) (no_fault c.args.file.now names facts is c.in_err-names.field-0.0 c.in_err-names.ensures.fault)

pub returns-clause-exact : goal.returns-clause-exact
returns-clause-exact c = λ names facts is.
    let same = saved_once c.args.file.now c.in_ok-names.field-0.names names c.in_ok-names.field-0.knowledge facts c.in_ok-names.ensures.ok is in
    (same.1, same.0)
