use Rattle.std.proofs.Common.{subst, None}
use Rattle.std.proofs.lemmas.Result.{err_from_is_err_and}
use Rattle.zmeta_devices.specs.Devices.{input_device}
use Rattle.zmeta_offline.specs.Scanned.{AfterReached}
use Rattle.zmeta_offline.specs.declared.scanned.Reached.{Reached}
use Rattle.zmeta_offline.proofs.Scanning.{if_err}
use Rattle.zmeta_offline.proofs.scanned.read_names.Goals as goal

pub returns-in_err-go_on-clause-err : goal.returns-in_err-go_on-clause-err
returns-in_err-go_on-clause-err g c =
    let p = err_from_is_err_and c.from_residual.result c.from_residual.ensures.1 in
    if_err c.from_residual.result _ p.0 c.in_err-go_on.field-0.0 p.1 p.2
    (λ octets path s. c.in_err-go_on.ensures.err octets path None s)

pub returns-in-Names-clause-ok : goal.returns-in-Names-clause-ok
returns-in-Names-clause-ok g c = λ octets path s.
    let now = input_device g.R.Readable.remaining c.go_on.new.file in
    subst (λ (r : Reached). AfterReached octets path now None r c.go_on.new.scan)
    c.in-Names.is (c.in_ok-go_on.ensures.ok octets path None s)

pub returns-in-Fact : goal.returns-in-Fact
returns-in-Fact g c = record { ok = tt; err = λ octets path s. tt; room = c.in_ok-go_on.ensures.room }
