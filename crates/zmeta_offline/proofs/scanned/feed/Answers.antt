use Rattle.std.proofs.Common.{refl, ap, subst, ℕ, List, [], take}
use Rattle.std.specs.Borrow.{Bor}
use Rattle.std.specs.Io.KnownBytes.{Consumes}
use Rattle.std.proofs.lemmas.Result.{err_from_is_err_and}
use Rattle.zmeta_devices.specs.Devices.{input_device}
use Rattle.zmeta_offline.proofs.Scanning.{if_err, read_refused, scan_fed, scan_ended}
use Rattle.zmeta_offline.proofs.scanned.feed.Goals as goal

pub returns-in_err-count-clause-err : goal.returns-in_err-count-clause-err
returns-in_err-count-clause-err g c =
    let p = err_from_is_err_and c.from_residual.result c.from_residual.ensures.1 in
    if_err c.from_residual.result _ p.0 c.in_err-count.field-0.0 p.1 p.2 (λ octets path found s.
    read_refused octets path (input_device g.R.Readable.remaining c.args.file.now) found c.args.scan.now
    c.in_err-count.field-0.0 c.args.file.now.path s refl c.in_err-count.ensures.err.0 c.in_err-count.ensures.unknown)

pub returns-then-count-eq0-clause-ok : goal.returns-then-count-eq0-clause-ok
returns-then-count-eq0-clause-ok g c = λ octets path found s unended.
    let f = input_device g.R.Readable.remaining in
    let old = g.R.Readable.remaining c.args.file.now.reader in
    let new = g.R.Readable.remaining c.read_some.new.self.reader in
    let none : Consumes old new [] =
    subst (λ (n : ℕ). Consumes old new (take n c.read_some.new.piece)) c.if-count-eq0.true
    c.in_ok-count.ensures.taken in
    scan_ended octets path (f c.args.file.now) (f c.read_some.new.self) found c.args.scan.now c.end.new.self s
    (ap (λ (b : Bor (List ℕ)). b.now) c.in_ok-count.ensures.path) none
    (c.in_ok-count.ensures.end c.if-count-eq0.true c.requires) (c.end.ensures s.input found s.scan)

pub returns-in_err-feed-clause-err : goal.returns-in_err-feed-clause-err
returns-in_err-feed-clause-err g c =
    let p = err_from_is_err_and c.from_residual-in_err-feed.result c.from_residual-in_err-feed.ensures.1 in
    if_err c.from_residual-in_err-feed.result _ p.0 _ p.1 p.2 (λ octets path found s. tt)

pub returns-clause-ok : goal.returns-clause-ok
returns-clause-ok g c = λ octets path found s unended.
    let f = input_device g.R.Readable.remaining in
    scan_fed octets path (f c.args.file.now) (f c.read_some.new.self) found c.args.scan.now c.feed.new.self
    (take c.in_ok-count.count c.read_some.new.piece) s unended
    (ap (λ (b : Bor (List ℕ)). b.now) c.in_ok-count.ensures.path) c.in_ok-count.ensures.taken
    (c.in_ok-feed.ensures.ok s.input found s.scan)
