use Rattle.std.proofs.Common.{ℕ, List, drop, map}
use Rattle.zmeta_catalogues.specs.Mistakes.{setting, AreErrorsOf}
use Rattle.zmeta_catalogues.proofs.Growing.{Growing}
use Rattle.zmeta_catalogues.proofs.mistakes.put_faults.Given as goal

abbrev pub invariant-faults : goal.invariant-faults
invariant-faults l =
    (text : List ℕ)
    → Growing (AreErrorsOf text (map (λ fault. setting l.site.name fault) (drop l.fault-index l.faults)))
    (AreErrorsOf text (map (λ fault. setting l.site.name fault) l.faults)) l.fn.found.items l.found.items
