use Rattle.std.proofs.Common.{Some, None, refl, ap, ◌∙◌}
use Rattle.zknow_merge.proofs.ScanTheory.{names_are}
use Rattle.zknow_merge.proofs.scan.Scan.names.Goals as goal

pub returns-in-None : goal.returns-in-None
returns-in-None c = λ i found was.
    names_are c.args.self.now i found was None (λ _. refl) (λ octets h. absurd (rw c.in-None.is at h))

pub returns-in-Some : goal.returns-in-Some
returns-in-Some c = λ i found was.
    names_are c.args.self.now i found was (Some c.as_slice.result.now) (λ none. let is = c.in-Some.is in absurd cc)
    (λ octets h. ap Some (c.as_slice.ensures.value ∙ (rw c.in-Some.is at h)))
