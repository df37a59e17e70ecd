use Rattle.std.proofs.Common.{false, sym, subst}
use Rattle.zoom_asking.specs.Hosts.{AfterChange}
use Rattle.zoom_asking.specs.Askings.{IsTalkedOn}
use Rattle.zoom_asking.proofs.asking.Asking.bring.Goals as goal

pub returns-in_ok-open-in-Opened-clause-talked : goal.returns-in_ok-open-in-Opened-clause-talked
returns-in_ok-open-in-Opened-clause-talked c =
    subst (λ x. IsTalkedOn c.args.c (AfterChange x) false c.args.self.now c.open.new.self) (sym c.in-Opened.is)
    c.in_ok-open-in-Opened.ensures.talked

pub returns-in_ok-end-in-Ended-clause-talked : goal.returns-in_ok-end-in-Ended-clause-talked
returns-in_ok-end-in-Ended-clause-talked c =
    subst (λ x. IsTalkedOn c.args.c (AfterChange x) false c.args.self.now c.end.new.self) (sym c.in-Ended.is)
    c.in_ok-end-in-Ended.ensures.talked
