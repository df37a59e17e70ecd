use Rattle.zapdu.proofs.ReadingBack.{apdu_back}
use Rattle.zapdu.proofs.laws.apdu_read_back.Goals as goal

pub returns : goal.returns
returns c = apdu_back
