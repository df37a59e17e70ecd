use Rattle.std.proofs.Common.{refl, sym, ap, subst, ℕ, List, []}
use Rattle.std.specs.Borrow.{Bor}
use Rattle.std.proofs.lemmas.Result.{err_from_is_err_and}
use Rattle.zmeta_args.specs.Texts.{texts_of}
use Rattle.zmeta_devices.specs.Devices.{input_device}
use Rattle.zmeta_devices.specs.Files.{opened_left}
use Rattle.zmeta_offline.specs.Scanned.{IsMarkedFile}
use Rattle.zmeta_offline.proofs.Noting.{marks_new}
use Rattle.zmeta_offline.proofs.Scanning.{if_err, scan_begun}
use Rattle.zmeta_offline.proofs.ScanningAll.{first_scanned}
use Rattle.zmeta_offline.proofs.scanned.scan_first.Goals as goal

pub returns-in_err-read_names-clause-err : goal.returns-in_err-read_names-clause-err
returns-in_err-read_names-clause-err g c =
    let p = err_from_is_err_and c.from_residual.result c.from_residual.ensures.1 in
    let octets = g.F.Folder.octets c.args.files.now in
    let f = input_device (λ r. opened_left g.F.File.Readable.remaining (g.F.Folder.octets r.files.now r.path.now) r.file) in
    let begun = scan_begun octets c.args.path.now (f c.file_at-file.result) c.new-scan.result
    (ap (λ (b : Bor (List ℕ)). b.now) c.file_at-file.ensures.path) c.file_at-file.ensures.octets c.new-scan.ensures in
    if_err c.from_residual.result _ p.0 c.in_err-read_names.field-0.0 p.1 p.2
    (c.in_err-read_names.ensures.err octets c.args.path.now begun)

pub returns-in_err-first-clause-err : goal.returns-in_err-first-clause-err
returns-in_err-first-clause-err g c =
    let p = err_from_is_err_and c.from_residual-in_err-first.result c.from_residual-in_err-first.ensures.1 in
    if_err c.from_residual-in_err-first.result _ p.0 _ p.1 p.2 tt

pub returns-in_err-mark_facts-clause-err : goal.returns-in_err-mark_facts-clause-err
returns-in_err-mark_facts-clause-err g c =
    let p = err_from_is_err_and c.from_residual-in_err-mark_facts.result c.from_residual-in_err-mark_facts.ensures.1 in
    let octets = g.F.Folder.octets c.args.files.now in
    let f = input_device (λ r. opened_left g.F.File.Readable.remaining (g.F.Folder.octets r.files.now r.path.now) r.file) in
    let begun = scan_begun octets c.args.path.now (f c.file_at-file.result) c.new-scan.result
    (ap (λ (b : Bor (List ℕ)). b.now) c.file_at-file.ensures.path) c.file_at-file.ensures.octets c.new-scan.ensures in
    let names = c.in_ok-read_names.ensures.ok octets c.args.path.now begun in
    if_err c.from_residual-in_err-mark_facts.result _ p.0 c.in_err-mark_facts.field-0.0 p.1 p.2
    (c.in_err-mark_facts.ensures.err octets c.args.path.now names.0 names.1)

pub returns-clause-ok : goal.returns-clause-ok
returns-clause-ok g c =
    let octets = g.F.Folder.octets c.args.files.now in
    let path = c.args.path.now in
    let f = input_device (λ r. opened_left g.F.File.Readable.remaining (g.F.Folder.octets r.files.now r.path.now) r.file) in
    let begun = scan_begun octets path (f c.file_at-file.result) c.new-scan.result
    (ap (λ (b : Bor (List ℕ)). b.now) c.file_at-file.ensures.path) c.file_at-file.ensures.octets c.new-scan.ensures in
    let names = c.in_ok-read_names.ensures.ok octets path begun in
    let one = c.in_ok-first.first in
    let first = c.in_ok-first.ensures.first names.0 (names.1.input, names.1.scan) in
    let marked = c.in_ok-mark_facts.ensures.ok octets path names.0 [] refl names.1
    (marks_new one names.0 _ c.new.ensures refl c.new-2.ensures) in
    first_scanned octets (texts_of c.args.only.now) path one c.mark_facts.new.marks first.1
    (subst (λ (own : List (List ℕ)). IsMarkedFile octets path one [] own c.mark_facts.new.marks)
    (sym first.0) marked)
