use Rattle.std.proofs.Common.{◌≡◌, ◌∙◌, [], ◌∷◌, ap, subst, Err}
use Rattle.std.proofs.lemmas.Result.{err_from_is_err_and}
use Rattle.zmeta_args.specs.Texts.{texts_of}
use Rattle.zmeta_devices.specs.Devices.{output_device}
use Rattle.zmeta_offline.specs.Marked.{AreMarked, ScanFilesResult}
use Rattle.zmeta_offline.specs.declared.scanned.Noting.TheVariants.{Others}
use Rattle.zmeta_offline.proofs.ScanningAll.{some_path}
use Rattle.zmeta_offline.proofs.JoinedTheory.{scan_refused}
use Rattle.zmeta_offline.proofs.joined.join_streamed.Goals as goal

pub scan_files-requires : goal.scan_files-requires
scan_files-requires g c =
    some_path c.as_slice.result.now c.args.saved.first.now (texts_of c.args.saved.others.now)
    (ap texts_of c.as_slice.ensures.value ∙ c.in_ok-paths.ensures)

pub returns-in_err-marked : goal.returns-in_err-marked
returns-in_err-marked g c view of =
    let octets = g.F.Folder.octets c.args.files.now in
    let paths = c.args.saved.first.now ∷ texts_of c.args.saved.others.now in
    let same : texts_of c.as_slice.result.now ≡ paths = ap texts_of c.as_slice.ensures.value ∙ c.in_ok-paths.ensures in
    let p = err_from_is_err_and c.from_residual-in_err-marked.result c.from_residual-in_err-marked.ensures.1 in
    scan_refused view octets paths (output_device g.W.Write.contents c.args.output.now) c.in_err-marked.field-0.0 p.0
    c.from_residual-in_err-marked.result p.1 p.2
    (subst (λ z. ScanFilesResult octets z [] Others (Err c.in_err-marked.field-0.0)) same c.in_err-marked.ensures)

pub returns : goal.returns
returns g c view of =
    let octets = g.F.Folder.octets c.args.files.now in
    c.join_marked.ensures (texts_of c.args.saved.others.now)
    (ap texts_of c.as_slice-2.ensures.value ∙ c.in_ok-paths.ensures)
    (subst (λ z. AreMarked octets z [] Others c.in_ok-marked.marked)
    (ap texts_of c.as_slice.ensures.value ∙ c.in_ok-paths.ensures) c.in_ok-marked.ensures) view of
