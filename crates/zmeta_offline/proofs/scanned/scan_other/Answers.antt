use Rattle.std.proofs.Common.{◌∙◌, sym, ap, ℕ, List}
use Rattle.std.specs.Borrow.{Bor}
use Rattle.std.proofs.lemmas.Result.{err_from_is_err_and}
use Rattle.zmeta_devices.specs.Devices.{input_device}
use Rattle.zmeta_devices.specs.Files.{opened_left}
use Rattle.zmeta_offline.proofs.Noting.{marks_begun}
use Rattle.zmeta_offline.proofs.Scanning.{if_err, scan_begun, each_count}
use Rattle.zmeta_offline.proofs.ScanningAll.{other_scanned, fault_behind}
use Rattle.zmeta_offline.proofs.scanned.scan_other.Goals as goal

pub returns-in_err-read_names-clause-err : goal.returns-in_err-read_names-clause-err
returns-in_err-read_names-clause-err g c =
    let p = err_from_is_err_and c.from_residual.result c.from_residual.ensures.1 in
    let octets = g.F.Folder.octets c.args.files.now in
    let path = c.args.path.now in
    let f = input_device (λ r. opened_left g.F.File.Readable.remaining (g.F.Folder.octets r.files.now r.path.now) r.file) in
    let begun = scan_begun octets path (f c.file_at-file.result) c.new-scan.result
    (ap (λ (b : Bor (List ℕ)). b.now) c.file_at-file.ensures.path) c.file_at-file.ensures.octets c.new-scan.ensures in
    if_err c.from_residual.result _ p.0 c.in_err-read_names.field-0.0 p.1 p.2 (λ only paths count s.
    fault_behind octets c.args.first.now.names path c.in_err-read_names.field-0.0
    (c.in_err-read_names.ensures.err octets path begun))

pub returns-in_err-mark_facts-clause-err : goal.returns-in_err-mark_facts-clause-err
returns-in_err-mark_facts-clause-err g c =
    let p = err_from_is_err_and c.from_residual-in_err-mark_facts.result c.from_residual-in_err-mark_facts.ensures.1 in
    let octets = g.F.Folder.octets c.args.files.now in
    let path = c.args.path.now in
    let f = input_device (λ r. opened_left g.F.File.Readable.remaining (g.F.Folder.octets r.files.now r.path.now) r.file) in
    let begun = scan_begun octets path (f c.file_at-file.result) c.new-scan.result
    (ap (λ (b : Bor (List ℕ)). b.now) c.file_at-file.ensures.path) c.file_at-file.ensures.octets c.new-scan.ensures in
    let names = c.in_ok-read_names.ensures.ok octets path begun in
    if_err c.from_residual-in_err-mark_facts.result _ p.0 c.in_err-mark_facts.field-0.0 p.1 p.2 (λ only paths count s.
    fault_behind octets c.args.first.now.names path c.in_err-mark_facts.field-0.0
    (c.in_err-mark_facts.ensures.err octets path names.0 names.1))

pub returns-then-same-clause-ok : goal.returns-then-same-clause-ok
returns-then-same-clause-ok g c = λ only paths count s.
    let octets = g.F.Folder.octets c.args.files.now in
    let path = c.args.path.now in
    let first = c.args.first.now in
    let f = input_device (λ r. opened_left g.F.File.Readable.remaining (g.F.Folder.octets r.files.now r.path.now) r.file) in
    let begun = scan_begun octets path (f c.file_at-file.result) c.new-scan.result
    (ap (λ (b : Bor (List ℕ)). b.now) c.file_at-file.ensures.path) c.file_at-file.ensures.octets c.new-scan.ensures in
    let names = c.in_ok-read_names.ensures.ok octets path begun in
    let tells = c.has_names-same.ensures first.names names.0 (names.1.input, names.1.scan) s.first_is.fits
    (c.as_slice.ensures.value ∙ s.first_is.element) in
    other_scanned octets only paths names.0 path first c.args.marks.now c.mark_facts.new.marks s
    (tells.0 c.if-same.true) (c.in_ok-mark_facts.ensures.ok octets path names.0 s.theirs
    (count ∙ sym (each_count octets first.names paths s.theirs s.saved)) names.1
    (marks_begun first s.theirs names.0 c.args.marks.now s.marks))

pub returns-clause-err : goal.returns-clause-err
returns-clause-err g c = λ only paths count s.
    let octets = g.F.Folder.octets c.args.files.now in
    let path = c.args.path.now in
    let first = c.args.first.now in
    let f = input_device (λ r. opened_left g.F.File.Readable.remaining (g.F.Folder.octets r.files.now r.path.now) r.file) in
    let begun = scan_begun octets path (f c.file_at-file.result) c.new-scan.result
    (ap (λ (b : Bor (List ℕ)). b.now) c.file_at-file.ensures.path) c.file_at-file.ensures.octets c.new-scan.ensures in
    let names = c.in_ok-read_names.ensures.ok octets path begun in
    let tells = c.has_names-same.ensures first.names names.0 (names.1.input, names.1.scan) s.first_is.fits
    (c.as_slice.ensures.value ∙ s.first_is.element) in
    let marked = c.in_ok-mark_facts.ensures.ok octets path names.0 s.theirs
    (count ∙ sym (each_count octets first.names paths s.theirs s.saved)) names.1
    (marks_begun first s.theirs names.0 c.args.marks.now s.marks) in
    record {
      others = names.0;
      facts = marked.facts;
      saved = marked.has.saved;
      differ = λ same. absurd (Prim.cc (sym c.if-same.false ∙ tells.1 same));
    }
