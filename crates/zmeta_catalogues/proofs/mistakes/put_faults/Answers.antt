use Rattle.std.proofs.Common.{refl, map}
use Rattle.zmeta_catalogues.specs.Mistakes.{setting, AreErrorsOf}
use Rattle.zmeta_catalogues.proofs.Growing.{begun}
use Rattle.zmeta_catalogues.proofs.Told.{one_fault, all_faults}
use Rattle.zmeta_catalogues.proofs.mistakes.put_faults.Goals as goal

pub faults-init : goal.faults-init
faults-init c =
    λ text. begun (AreErrorsOf text (map (λ fault. setting c.args.site.now.name fault) c.args.faults.now))
    c.args.found.now.items c.args.found.now.items refl

pub faults-preserved : goal.faults-preserved
faults-preserved c =
    λ text. one_fault text (λ fault. setting c.args.site.now.name fault) c.args.faults.now c.faults.fault-index _
    c.setting_error.result (AreErrorsOf text (map (λ fault. setting c.args.site.now.name fault) c.args.faults.now))
    c.args.found.now.items c.faults.found.items c.put.new.found.items c.faults-test.true c.setting_error.ensures
    c.in_ok-put.ensures.own c.in_ok-put.ensures.added (c.faults.invariant text)

pub returns : goal.returns
returns c =
    λ text. all_faults text (λ fault. setting c.args.site.now.name fault) c.args.faults.now c.faults.fault-index
    (AreErrorsOf text (map (λ fault. setting c.args.site.now.name fault) c.args.faults.now)) c.args.found.now.items
    c.faults.found.items c.faults-test.false (c.faults.invariant text)
