use Rattle.std.proofs.Common.{◌∷◌}
use Rattle.std.proofs.lemmas.Result.{err_from_is_err_and}
use Rattle.zmeta_args.specs.Texts.{texts_of}
use Rattle.zmeta_offline.proofs.NewsTheory.{earlier_refused, later_refused}
use Rattle.zmeta_offline.proofs.news.load_since.Goals as goal

pub returns-in_err-before : goal.returns-in_err-before
returns-in_err-before g c =
    let p = err_from_is_err_and c.from_residual.result c.from_residual.ensures.1 in
    earlier_refused (g.F.Folder.octets c.args.files.now) c.args.earlier.now
    (c.args.saved.first.now ∷ texts_of c.args.saved.others.now) c.in_err-before.field-0.0 p.0 c.from_residual.result
    p.1 p.2 c.in_err-before.ensures

pub returns-in_err-after : goal.returns-in_err-after
returns-in_err-after g c =
    let p = err_from_is_err_and c.from_residual-in_err-after.result c.from_residual-in_err-after.ensures.1 in
    later_refused (g.F.Folder.octets c.args.files.now) c.args.earlier.now
    (c.args.saved.first.now ∷ texts_of c.args.saved.others.now) c.in_ok-before.before.1 c.in_ok-before.before.0
    c.in_err-after.field-0.0 p.0 c.from_residual-in_err-after.result p.1 p.2 c.in_ok-before.ensures
    c.in_err-after.ensures

pub returns : goal.returns
returns g c = (c.in_ok-before.ensures, c.in_ok-after.ensures)
