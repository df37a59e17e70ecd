use Rattle.zoom_laws.proofs.AccordTheory.Accord.{taken_law, accepts_law, unanswered_law, apart_law, owes_law, owes_close_law, fits_law}
use Rattle.zoom_laws.proofs.laws.accord_laws.Goals as goal

pub returns : goal.returns
returns c = record {
  taken = taken_law;
  accepts = accepts_law;
  unanswered = unanswered_law;
  apart = apart_law;
  owes = owes_law;
  owes_close = owes_close_law;
  fits = fits_law;
}
