use Rattle.zoom_laws.proofs.LengthTheory.Lengths.{short_law, text_law}
use Rattle.zoom_laws.proofs.LengthTheory.Records.{fitting_law, names_law}
use Rattle.zoom_laws.proofs.laws.length_laws.Goals as goal

pub returns : goal.returns
returns c = record { short = short_law; fitting = fitting_law; named = names_law; text = text_law }
