use Rattle.std.proofs.Common.{None, Some, sym, ap, ◌∙◌}
use Rattle.std.specs.Option.{option_map}
use Rattle.zknow_merge.specs.declared.head.Head.{Head}
use Rattle.zknow_merge.proofs.ScanTheory.{element_is}
use Rattle.zknow_merge.proofs.scan.Scan.element.Goals as goal

pub returns-in-None : goal.returns-in-None
returns-in-None c = λ i found was.
    element_is c.args.self.now i found was None
    (sym (ap (option_map (λ (h : Head). h.element.items)) c.in-None.is))

pub returns-in-Some : goal.returns-in-Some
returns-in-Some c = λ i found was.
    element_is c.args.self.now i found was (Some c.as_slice.result.now)
    (ap Some c.as_slice.ensures.value ∙ sym (ap (option_map (λ (h : Head). h.element.items)) c.in-Some.is))
