use Rattle.std.proofs.Common.{◌≡◌, refl, ◌∙◌, [], ◌∷◌, rules}
use Rattle.std.proofs.lemmas.Result.{err_from_is_err_and}
use Rattle.zknow_records.specs.Records.{records_octets, left_out}
use Rattle.zmeta_devices.specs.Devices.{outputs}
use Rattle.zmeta_args.specs.Texts.{texts_of}
use Rattle.zmeta_offline.specs.Records.{extract}
use Rattle.zmeta_offline.proofs.Extracting.{files_refused, name_refused, extracted}
use Rattle.zmeta_offline.proofs.records.records_files.Goals as goal

pub returns-in_err-known : goal.returns-in_err-known
returns-in_err-known g c =
    let p = err_from_is_err_and c.from_residual-in_err-known.result c.from_residual-in_err-known.ensures.1 in
    files_refused (extract c.args.wanted) (g.F.Folder.octets c.args.files.now) (c.args.saved.first.now ∷ texts_of c.args.saved.others.now)
    (outputs g.W.Write.contents g.E.Write.contents c.args.output.now c.args.errors.now)
    c.in_err-known.field-0.0 p.0 c.from_residual-in_err-known.result p.1 p.2 c.in_err-known.ensures

pub returns-in_err-knowledge : goal.returns-in_err-knowledge
returns-in_err-knowledge g c =
    let p = err_from_is_err_and c.from_residual-in_err-knowledge.result c.from_residual-in_err-knowledge.ensures.1 in
    name_refused (extract c.args.wanted) (g.F.Folder.octets c.args.files.now) (c.args.saved.first.now ∷ texts_of c.args.saved.others.now)
    (outputs g.W.Write.contents g.E.Write.contents c.args.output.now c.args.errors.now)
    c.in_err-knowledge.field-0.0 p.0 c.from_residual-in_err-knowledge.result c.in_ok-known.known.1 c.in_ok-known.known.0 p.1 p.2
    c.in_ok-known.ensures c.in_err-knowledge.ensures

pub returns : goal.returns
returns g c =
    let oid = c.in_ok-syntax.syntax in
    let facts = c.in_ok-knowledge.knowledge in
    let put : c.in_ok-octets.octets.items ≡ records_octets oid c.args.wanted.conflicts facts = search rules in
    let which : c.in_ok-octets.left ≡ left_out oid c.args.wanted.conflicts facts = search rules in
    extracted (extract c.args.wanted) (g.F.Folder.octets c.args.files.now) (c.args.saved.first.now ∷ texts_of c.args.saved.others.now)
    (outputs g.W.Write.contents g.E.Write.contents c.args.output.now c.args.errors.now)
    c.in_ok-known.known.0 facts c.in_ok-known.known.1 oid c.as_slice.result.now c.as_slice-2.result.now [] c.in_ok-octets.left
    c.in_ok-known.ensures c.in_ok-knowledge.ensures c.in_ok-syntax.ensures refl
    (c.as_slice.ensures.value ∙ put) which (c.as_slice-2.ensures.value ∙ c.in_ok-lines.ensures)
    (outputs g.W.Write.contents g.E.Write.contents c.put_records.new.output c.put_records.new.errors)
    c.known_status-status.result c.known_status-status.ensures c.in_ok-put_records.ensures
