use Rattle.zapdu.proofs.ReadingBack.{diag_back}
use Rattle.zapdu.proofs.laws.diagnostic_read_back.Goals as goal

pub returns : goal.returns
returns c = diag_back
