use Rattle.std.proofs.Common.{refl, ◌∙◌, sym, subst}
use Rattle.std.proofs.lemmas.Result.{err_from_is_err_and}
use Rattle.zmeta_devices.specs.declared.fault.Fault.{Fault}
use Rattle.zmeta_devices.specs.Devices.{input_device}
use Rattle.zmeta_offline.specs.Join.{IsFaultAt}
use Rattle.zmeta_offline.proofs.Scanning.{if_err, need_read, names_read, fact_read, end_read, scan_refused}
use Rattle.zmeta_offline.proofs.scanned.go_on.Goals as goal

pub loop-init : goal.loop-init
loop-init g c = (λ octets path found s. s, refl)

pub returns-in_err-next-clause-err : goal.returns-in_err-next-clause-err
returns-in_err-next-clause-err g c =
    let p = err_from_is_err_and c.from_residual.result c.from_residual.ensures.1 in
    if_err c.from_residual.result _ p.0 _ p.1 p.2 (λ octets path found s. tt)

pub returns-in_err-feed-in-Need-clause-err : goal.returns-in_err-feed-in-Need-clause-err
returns-in_err-feed-in-Need-clause-err g c =
    let given = c.from_residual-in_err-feed-in-Need in
    let p = err_from_is_err_and given.result given.ensures.1 in
    if_err given.result _ p.0 c.in_err-feed-in-Need.field-0.0 p.1 p.2 (λ octets path found s.
    let h = c.loop.invariant.0 octets path found s in
    let n = need_read octets path (input_device g.R.Readable.remaining c.loop.file) c.loop.scan c.next.new.self found h
    c.in_ok-next.field-0 c.in-Need.is (c.in_ok-next.ensures.ok h.input found h.scan) in
    c.in_err-feed-in-Need.ensures.err octets path found n.0)

pub returns-in-Names-clause-ok : goal.returns-in-Names-clause-ok
returns-in-Names-clause-ok g c = λ octets path found s.
    let h = c.loop.invariant.0 octets path found s in
    names_read octets path (input_device g.R.Readable.remaining c.loop.file) c.loop.scan c.next.new.self found
    c.in_ok-next.field-0 h c.in-Names.is (c.in_ok-next.ensures.ok h.input found h.scan)

pub returns-in-Fact-clause-ok : goal.returns-in-Fact-clause-ok
returns-in-Fact-clause-ok g c = λ octets path found s.
    let h = c.loop.invariant.0 octets path found s in
    fact_read octets path (input_device g.R.Readable.remaining c.loop.file) c.loop.scan c.next.new.self found
    c.in_ok-next.field-0 h c.in-Fact.place c.in-Fact.is (c.in_ok-next.ensures.ok h.input found h.scan)

pub returns-in-Refused-clause-err : goal.returns-in-Refused-clause-err
returns-in-Refused-clause-err g c = λ octets path found s.
    let h = c.loop.invariant.0 octets path found s in
    subst (λ (f : Fault). IsFaultAt octets path f) (sym c.of_load.ensures)
    (scan_refused octets path (input_device g.R.Readable.remaining c.loop.file) c.loop.scan c.next.new.self found h
    c.in_ok-next.field-0 c.in-Refused.fault c.loop.file.path c.in-Refused.is refl
    (c.in_ok-next.ensures.ok h.input found h.scan))

pub returns-in-Done-clause-ok : goal.returns-in-Done-clause-ok
returns-in-Done-clause-ok g c = λ octets path found s.
    let h = c.loop.invariant.0 octets path found s in
    end_read octets path (input_device g.R.Readable.remaining c.loop.file) c.loop.scan c.next.new.self found
    c.in_ok-next.field-0 h c.in-Done.is (c.in_ok-next.ensures.ok h.input found h.scan)

pub loop-preserved : goal.loop-preserved
loop-preserved g c = (
  λ octets path found s.
      let h = c.loop.invariant.0 octets path found s in
      let n = need_read octets path (input_device g.R.Readable.remaining c.loop.file) c.loop.scan c.next.new.self found h
      c.in_ok-next.field-0 c.in-Need.is (c.in_ok-next.ensures.ok h.input found h.scan) in
      c.in_ok-feed-in-Need.ensures.ok octets path found n.0 n.1,
  c.in_ok-feed-in-Need.ensures.path ∙ c.loop.invariant.1,
)
