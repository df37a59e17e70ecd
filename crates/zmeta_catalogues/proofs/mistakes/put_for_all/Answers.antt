use Rattle.std.proofs.Common.{refl, map}
use Rattle.zmeta_catalogues.specs.Mistakes.{for_all, AreErrorsOf}
use Rattle.zmeta_catalogues.proofs.Growing.{begun}
use Rattle.zmeta_catalogues.proofs.Told.{one_fault, all_faults}
use Rattle.zmeta_catalogues.proofs.mistakes.put_for_all.Goals as goal

pub faults-init : goal.faults-init
faults-init c =
    begun (AreErrorsOf c.args.source.now.text.now (map (λ fault. for_all fault) c.args.faults.now))
    c.args.found.now.items c.args.found.now.items refl

pub faults-preserved : goal.faults-preserved
faults-preserved c =
    one_fault c.args.source.now.text.now (λ fault. for_all fault) c.args.faults.now c.faults.fault-index _
    c.for_all_error.result (AreErrorsOf c.args.source.now.text.now (map (λ fault. for_all fault) c.args.faults.now))
    c.args.found.now.items c.faults.found.items c.put.new.found.items c.faults-test.true c.for_all_error.ensures
    c.in_ok-put.ensures.own c.in_ok-put.ensures.added c.faults.invariant

pub returns : goal.returns
returns c =
    all_faults c.args.source.now.text.now (λ fault. for_all fault) c.args.faults.now c.faults.fault-index
    (AreErrorsOf c.args.source.now.text.now (map (λ fault. for_all fault) c.args.faults.now)) c.args.found.now.items
    c.faults.found.items c.faults-test.false c.faults.invariant
