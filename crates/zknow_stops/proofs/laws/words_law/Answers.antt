use Rattle.zknow_stops.proofs.Words.{words_printable}
use Rattle.zknow_stops.proofs.laws.words_law.Goals as goal

pub returns : goal.returns
returns c = words_printable
