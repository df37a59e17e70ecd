use Rattle.std.proofs.Common.{subst}
use Rattle.zknow.specs.Tables.FactRefs.{fact_of}
use Rattle.zknow.specs.Facts.{IsFact}
use Rattle.zknow.proofs.SavedTheory.FactSpelled.{count_spelled, failed_spelled, seen_spelled, diag_spelled}
use Rattle.zknow.proofs.saved.fits.fits.Goals as goal

pub returns-in-Count : goal.returns-in-Count
returns-in-Count c = rw c.in-Count.is (count_spelled c.in-Count.target c.in-Count.set c.natural_fits.ensures c.natural_fits-in-Count.ensures c.in-Count.count c.number_fits.ensures (subst (λ f. IsFact (fact_of f)) c.in-Count.is c.requires))

pub returns-in-Failed : goal.returns-in-Failed
returns-in-Failed c = rw c.in-Failed.is (failed_spelled c.in-Failed.target c.in-Failed.set c.natural_fits-in-Failed.ensures c.natural_fits-in-Failed-2.ensures)

pub returns-in-Seen : goal.returns-in-Seen
returns-in-Seen c = rw c.in-Seen.is (seen_spelled c.in-Seen.target c.in-Seen.set c.natural_fits-in-Seen.ensures c.natural_fits-in-Seen-2.ensures c.in-Seen.position c.in-Seen.rec.now c.number_fits-in-Seen.ensures (subst (λ f. IsFact (fact_of f)) c.in-Seen.is c.requires))

pub returns-in-Diag : goal.returns-in-Diag
returns-in-Diag c = rw c.in-Diag.is (diag_spelled c.in-Diag.target c.in-Diag.set c.natural_fits-in-Diag.ensures c.natural_fits-in-Diag-2.ensures c.in-Diag.place c.in-Diag.diag.now c.number_fits-in-Diag.ensures c.show_spelled.ensures (subst (λ f. IsFact (fact_of f)) c.in-Diag.is c.requires))
