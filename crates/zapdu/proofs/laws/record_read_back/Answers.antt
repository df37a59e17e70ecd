use Rattle.zapdu.proofs.ReadingBack.{record_back}
use Rattle.zapdu.proofs.laws.record_read_back.Goals as goal

pub returns : goal.returns
returns c = record_back
