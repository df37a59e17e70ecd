use Rattle.std.proofs.Common.{drop, map}
use Rattle.zmeta_catalogues.specs.Mistakes.{for_all, AreErrorsOf}
use Rattle.zmeta_catalogues.proofs.Growing.{Growing}
use Rattle.zmeta_catalogues.proofs.mistakes.put_for_all.Given as goal

abbrev pub invariant-faults : goal.invariant-faults
invariant-faults l =
    Growing (AreErrorsOf l.source.text.now (map (λ fault. for_all fault) (drop l.fault-index l.faults)))
    (AreErrorsOf l.source.text.now (map (λ fault. for_all fault) l.faults)) l.fn.found.items l.found.items
