use Rattle.std.proofs.Common.{◌≡◌, ◌∙◌, ◌∷◌, refl, ap, subst, Err}
use Rattle.std.proofs.lemmas.Result.{err_from_is_err_and}
use Rattle.zmeta_args.specs.Texts.{texts_of}
use Rattle.zmeta_devices.specs.Devices.{outputs}
use Rattle.zmeta_offline.specs.Marked.{AreMarked, ScanFilesResult}
use Rattle.zmeta_offline.specs.Records.{extract}
use Rattle.zmeta_offline.specs.declared.scanned.Marked.{Marked}
use Rattle.zmeta_offline.specs.declared.scanned.Noting.TheVariants.{Failures}
use Rattle.zmeta_offline.proofs.ScanningAll.{some_path}
use Rattle.zmeta_offline.proofs.Streaming.{scan_refused, records_refused, records_written, no_lines, put_refused, streamed}
use Rattle.zmeta_offline.proofs.records.records_streamed.Goals as goal

pub scan_files-requires : goal.scan_files-requires
scan_files-requires g c =
    some_path c.as_slice.result.now c.args.saved.first.now (texts_of c.args.saved.others.now)
    (ap texts_of c.as_slice.ensures.value ∙ c.in_ok-paths.ensures)

pub returns-in_err-chosen : goal.returns-in_err-chosen
returns-in_err-chosen g c =
    let octets = g.F.Folder.octets c.args.files.now in
    let paths = c.args.saved.first.now ∷ texts_of c.args.saved.others.now in
    let same : texts_of c.as_slice.result.now ≡ paths = ap texts_of c.as_slice.ensures.value ∙ c.in_ok-paths.ensures in
    let p = err_from_is_err_and c.from_residual-in_err-chosen.result c.from_residual-in_err-chosen.ensures.1 in
    scan_refused (extract c.args.wanted) octets paths
    (outputs g.W.Write.contents g.E.Write.contents c.args.output.now c.args.errors.now) c.in_err-chosen.field-0.0 p.0
    c.from_residual-in_err-chosen.result p.1 p.2
    (subst (λ z. ScanFilesResult octets z (texts_of c.args.wanted.only.now) Failures (Err c.in_err-chosen.field-0.0))
    same c.in_err-chosen.ensures)

pub returns-in_err-last : goal.returns-in_err-last
returns-in_err-last g c =
    let octets = g.F.Folder.octets c.args.files.now in
    let first = c.args.saved.first.now in
    let others = texts_of c.args.saved.others.now in
    let e = extract c.args.wanted in
    let before = outputs g.W.Write.contents g.E.Write.contents c.args.output.now c.args.errors.now in
    let m : Marked = c.in_ok-chosen.field-0 in
    let marked : AreMarked octets (first ∷ others) e.only Failures m =
    subst (λ z. AreMarked octets z e.only Failures m) (ap texts_of c.as_slice.ensures.value ∙ c.in_ok-paths.ensures)
    c.in_ok-chosen.ensures in
    let same : texts_of c.as_slice-2.result.now ≡ first ∷ others =
    ap texts_of c.as_slice-2.ensures.value ∙ c.in_ok-paths.ensures in
    let oid = c.in_ok-syntax.syntax in
    let mid = outputs g.W.Write.contents g.E.Write.contents c.write_rows.new.output c.args.errors.now in
    let p = err_from_is_err_and c.from_residual-in_err-last.result c.from_residual-in_err-last.ensures.1 in
    records_refused e octets first others before m marked oid c.in_ok-syntax.ensures (texts_of c.as_slice-2.result.now)
    c.as_slice-3.result.now same c.as_slice-3.ensures.value mid refl c.write_rows.result _ c.write_rows.ensures
    (record { chosen = refl; form = refl; head = c.new.ensures.items }) c.in_err-last.field-0.0 p.0
    c.from_residual-in_err-last.result c.in_err-last.was p.1 p.2

pub returns-in_err-lines : goal.returns-in_err-lines
returns-in_err-lines g c =
    let octets = g.F.Folder.octets c.args.files.now in
    let first = c.args.saved.first.now in
    let others = texts_of c.args.saved.others.now in
    let e = extract c.args.wanted in
    let before = outputs g.W.Write.contents g.E.Write.contents c.args.output.now c.args.errors.now in
    let m : Marked = c.in_ok-chosen.field-0 in
    let marked : AreMarked octets (first ∷ others) e.only Failures m =
    subst (λ z. AreMarked octets z e.only Failures m) (ap texts_of c.as_slice.ensures.value ∙ c.in_ok-paths.ensures)
    c.in_ok-chosen.ensures in
    let same : texts_of c.as_slice-2.result.now ≡ first ∷ others =
    ap texts_of c.as_slice-2.ensures.value ∙ c.in_ok-paths.ensures in
    let oid = c.in_ok-syntax.syntax in
    let mid = outputs g.W.Write.contents g.E.Write.contents c.write_rows.new.output c.args.errors.now in
    let written =
    records_written e octets first others before m marked oid c.in_ok-syntax.ensures (texts_of c.as_slice-2.result.now)
    c.as_slice-3.result.now same c.as_slice-3.ensures.value mid c.in_ok-last.last c.in_ok-last.tally _
    c.in_ok-last.ensures (record { chosen = refl; form = refl; head = c.new.ensures.items }) in
    let p = err_from_is_err_and c.from_residual-in_err-lines.result c.from_residual-in_err-lines.ensures.1 in
    no_lines e octets first others before m marked oid c.in_ok-syntax.ensures mid refl c.in_ok-last.last.items
    c.in_ok-last.tally.left written p.0 c.from_residual-in_err-lines.result p.1 p.2

pub returns-in_err-put_records : goal.returns-in_err-put_records
returns-in_err-put_records g c =
    let octets = g.F.Folder.octets c.args.files.now in
    let first = c.args.saved.first.now in
    let others = texts_of c.args.saved.others.now in
    let e = extract c.args.wanted in
    let before = outputs g.W.Write.contents g.E.Write.contents c.args.output.now c.args.errors.now in
    let m : Marked = c.in_ok-chosen.field-0 in
    let marked : AreMarked octets (first ∷ others) e.only Failures m =
    subst (λ z. AreMarked octets z e.only Failures m) (ap texts_of c.as_slice.ensures.value ∙ c.in_ok-paths.ensures)
    c.in_ok-chosen.ensures in
    let same : texts_of c.as_slice-2.result.now ≡ first ∷ others =
    ap texts_of c.as_slice-2.ensures.value ∙ c.in_ok-paths.ensures in
    let oid = c.in_ok-syntax.syntax in
    let mid = outputs g.W.Write.contents g.E.Write.contents c.write_rows.new.output c.args.errors.now in
    let written =
    records_written e octets first others before m marked oid c.in_ok-syntax.ensures (texts_of c.as_slice-2.result.now)
    c.as_slice-3.result.now same c.as_slice-3.ensures.value mid c.in_ok-last.last c.in_ok-last.tally _
    c.in_ok-last.ensures (record { chosen = refl; form = refl; head = c.new.ensures.items }) in
    let p =
    err_from_is_err_and c.from_residual-in_err-put_records.result c.from_residual-in_err-put_records.ensures.1 in
    put_refused e octets first others before m marked oid c.in_ok-syntax.ensures mid refl c.in_ok-last.last.items
    c.in_ok-last.tally.left written c.as_slice-4.result.now c.as_slice-5.result.now
    (outputs g.W.Write.contents g.E.Write.contents c.put_records.new.output c.put_records.new.errors)
    c.as_slice-4.ensures.value c.in_err-put_records.field-0.0 p.0 c.from_residual-in_err-put_records.result p.1 p.2
    c.in_err-put_records.ensures

pub returns : goal.returns
returns g c =
    let octets = g.F.Folder.octets c.args.files.now in
    let first = c.args.saved.first.now in
    let others = texts_of c.args.saved.others.now in
    let e = extract c.args.wanted in
    let before = outputs g.W.Write.contents g.E.Write.contents c.args.output.now c.args.errors.now in
    let m : Marked = c.in_ok-chosen.field-0 in
    let marked : AreMarked octets (first ∷ others) e.only Failures m =
    subst (λ z. AreMarked octets z e.only Failures m) (ap texts_of c.as_slice.ensures.value ∙ c.in_ok-paths.ensures)
    c.in_ok-chosen.ensures in
    let same : texts_of c.as_slice-2.result.now ≡ first ∷ others =
    ap texts_of c.as_slice-2.ensures.value ∙ c.in_ok-paths.ensures in
    let oid = c.in_ok-syntax.syntax in
    let mid = outputs g.W.Write.contents g.E.Write.contents c.write_rows.new.output c.args.errors.now in
    let written =
    records_written e octets first others before m marked oid c.in_ok-syntax.ensures (texts_of c.as_slice-2.result.now)
    c.as_slice-3.result.now same c.as_slice-3.ensures.value mid c.in_ok-last.last c.in_ok-last.tally _
    c.in_ok-last.ensures (record { chosen = refl; form = refl; head = c.new.ensures.items }) in
    streamed e octets first others before m marked oid c.in_ok-syntax.ensures mid refl c.in_ok-last.last.items
    c.in_ok-last.tally.left written c.as_slice-4.result.now c.as_slice-5.result.now
    (outputs g.W.Write.contents g.E.Write.contents c.put_records.new.output c.put_records.new.errors)
    c.status_of.result c.as_slice-4.ensures.value (c.as_slice-5.ensures.value ∙ c.in_ok-lines.ensures)
    c.status_of.ensures c.in_ok-put_records.ensures
