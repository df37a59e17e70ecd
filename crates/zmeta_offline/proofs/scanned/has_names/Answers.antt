use Rattle.std.proofs.Common.{[], Some}
use Rattle.zmeta_offline.proofs.Scanning.{names_test}
use Rattle.zmeta_offline.proofs.scanned.has_names.Goals as goal

pub returns-in-None : goal.returns-in-None
returns-in-None c = λ names own behind fits is.
    absurd (Prim.cc (c.in-None.ensures behind.0 (Some (own, [])) behind.1))

pub returns-in-Some : goal.returns-in-Some
returns-in-Some c = λ names own behind fits is.
    names_test names own c.args.scan.now c.in-Some.own.now c.args.element.now c.eq.result behind fits is
    (c.in-Some.ensures behind.0 (Some (own, [])) behind.1) c.eq.ensures
