use Rattle.std.proofs.Common.{subst, [], ◌∷◌, ◌++◌, Some}
use Rattle.std.proofs.lemmas.Result.{err_from_is_err_and}
use Rattle.zmeta_devices.specs.Devices.{input_device}
use Rattle.zmeta_offline.specs.Scanned.{AfterReached, AfterFact, AfterEnd}
use Rattle.zmeta_offline.specs.declared.scanned.Reached.{Reached}
use Rattle.zmeta_offline.proofs.Scanning.{if_err}
use Rattle.zmeta_offline.proofs.scanned.mark_facts.Goals as goal

pub loop-init : goal.loop-init
loop-init g c = λ octets path own s. ([], s, λ theirs count m. m)

pub returns-in_err-go_on-clause-err : goal.returns-in_err-go_on-clause-err
returns-in_err-go_on-clause-err g c =
    let p = err_from_is_err_and c.from_residual.result c.from_residual.ensures.1 in
    if_err c.from_residual.result _ p.0 c.in_err-go_on.field-0.0 p.1 p.2 (λ octets path own s.
    let h = c.loop.invariant octets path own s in
    c.in_err-go_on.ensures.err octets path (Some (own, h.0)) h.1)

pub returns-in_err-note-in-Fact-clause-err : goal.returns-in_err-note-in-Fact-clause-err
returns-in_err-note-in-Fact-clause-err g c =
    let given = c.from_residual-in_err-note-in-Fact in
    let p = err_from_is_err_and given.result given.ensures.1 in
    if_err given.result _ p.0 _ p.1 p.2 (λ octets path own s. tt)

pub returns-in-End-clause-ok : goal.returns-in-End-clause-ok
returns-in-End-clause-ok g c = λ octets path own theirs count s m.
    let h = c.loop.invariant octets path own s in
    let now = input_device g.R.Readable.remaining c.go_on.new.file in
    let end : AfterEnd octets path (Some (own, h.0)) =
    subst (λ (r : Reached). AfterReached octets path now (Some (own, h.0)) r c.go_on.new.scan) c.in-End.is
    (c.in_ok-go_on.ensures.ok octets path (Some (own, h.0)) h.1) in
    record { facts = h.0; has = end; marks = h.2 theirs count m }

pub loop-preserved : goal.loop-preserved
loop-preserved g c = λ octets path own s.
    let h = c.loop.invariant octets path own s in
    let now = input_device g.R.Readable.remaining c.go_on.new.file in
    let after : AfterFact octets path now (Some (own, h.0)) c.in-Fact.place c.go_on.new.scan =
    subst (λ (r : Reached). AfterReached octets path now (Some (own, h.0)) r c.go_on.new.scan) c.in-Fact.is
    (c.in_ok-go_on.ensures.ok octets path (Some (own, h.0)) h.1) in (
      h.0 ++ after.0 ∷ [],
      after.2,
      λ theirs count m.
          c.in_ok-note-in-Fact.ensures own theirs h.0 after.0 count after.1
          (after.2.input, own, h.0, after.2.scan) (h.2 theirs count m),
    )
