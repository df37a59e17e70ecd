use Rattle.zmarc.proofs.LinesTheory.{lines_written, data_made}
use Rattle.zmarc.proofs.laws.lines_laws.Goals as goal

pub returns : goal.returns
returns c = record {
  of_record = λ reading status coded fs w. lines_written status coded fs w reading;
  of_field = data_made;
}
