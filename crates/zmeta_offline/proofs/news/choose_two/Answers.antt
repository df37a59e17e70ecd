use Rattle.std.proofs.lemmas.Result.{err_from_is_err_and}
use Rattle.zmeta_args.specs.Texts.{texts_of}
use Rattle.zmeta_offline.proofs.NewsTheory.{choice_refused}
use Rattle.zmeta_offline.proofs.news.choose_two.Goals as goal

pub returns-in_err-later : goal.returns-in_err-later
returns-in_err-later c =
    let p = err_from_is_err_and c.from_residual.result c.from_residual.ensures.1 in
    choice_refused (texts_of c.args.only.now) c.args.before.now.1 c.args.before.now.0 c.args.after.now.1
    c.args.after.now.0 c.in_err-later.field-0.0 p.0 c.from_residual.result p.1 p.2 c.in_err-later.ensures

pub returns : goal.returns
returns c = (c.in_ok-earlier.ensures, c.in_ok-later.ensures.0, c.in_ok-later.ensures.1)
