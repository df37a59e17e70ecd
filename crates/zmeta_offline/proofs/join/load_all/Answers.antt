use Rattle.std.proofs.Common.{[], ◌∷◌}
use Rattle.std.proofs.lemmas.Result.{err_from_is_err_and}
use Rattle.zmeta_args.specs.Texts.{texts_of}
use Rattle.zmeta_offline.specs.Join.AreJoined.{one}
use Rattle.zmeta_offline.proofs.Joining.{first_refused, rest_refused}
use Rattle.zmeta_offline.proofs.join.load_all.Goals as goal

pub returns-in_err-knowledge : goal.returns-in_err-knowledge
returns-in_err-knowledge g c =
    let p = err_from_is_err_and c.from_residual.result c.from_residual.ensures.1 in
    first_refused (g.F.Folder.octets c.args.files.now) c.args.first.now (texts_of c.args.others.now)
    c.in_err-knowledge.field-0.0 p.0 c.from_residual.result p.1 p.2 c.in_err-knowledge.ensures

pub returns-in_err-absorb_all : goal.returns-in_err-absorb_all
returns-in_err-absorb_all g c =
    let p = err_from_is_err_and c.from_residual-in_err-absorb_all.result c.from_residual-in_err-absorb_all.ensures.1 in
    rest_refused (g.F.Folder.octets c.args.files.now) c.in_ok-knowledge.names c.args.first.now (texts_of c.args.others.now)
    c.in_ok-knowledge.knowledge c.absorb_all.new.knowledge c.in_err-absorb_all.field-0.0 p.0
    c.from_residual-in_err-absorb_all.result p.1 p.2 c.in_ok-knowledge.ensures c.in_err-absorb_all.ensures

pub returns : goal.returns
returns g c =
    c.in_ok-absorb_all.ensures (c.args.first.now ∷ []) (one c.args.first.now c.in_ok-knowledge.ensures)
