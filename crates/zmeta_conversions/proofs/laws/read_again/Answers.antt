use Rattle.zmeta_conversions.proofs.ReadAgain.{reads}
use Rattle.zmeta_conversions.proofs.laws.read_again.Goals as goal

pub returns : goal.returns
returns c = reads
