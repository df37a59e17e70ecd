use Rattle.std.proofs.lemmas.Result.{err_from_is_err_and}
use Rattle.zmeta_offline.proofs.Changing.{first_refused, second_refused}
use Rattle.zmeta_offline.proofs.new.load_two.Goals as goal

pub returns-in_err-before : goal.returns-in_err-before
returns-in_err-before g c =
    let p = err_from_is_err_and c.from_residual.result c.from_residual.ensures.1 in
    first_refused (g.F.Folder.octets c.args.files.now) c.args.earlier.now c.args.later.now
    c.in_err-before.field-0.0 p.0 c.from_residual.result p.1 p.2 c.in_err-before.ensures

pub returns-in_err-after : goal.returns-in_err-after
returns-in_err-after g c =
    let p = err_from_is_err_and c.from_residual-in_err-after.result c.from_residual-in_err-after.ensures.1 in
    second_refused (g.F.Folder.octets c.args.files.now) c.args.earlier.now c.args.later.now
    c.in_ok-before.before.1 c.in_ok-before.before.0 c.in_err-after.field-0.0 p.0 c.from_residual-in_err-after.result
    p.1 p.2 c.in_ok-before.ensures c.in_err-after.ensures

pub returns : goal.returns
returns g c = record { first = c.in_ok-before.ensures; second = c.in_ok-after.ensures }
