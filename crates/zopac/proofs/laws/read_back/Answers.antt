use Rattle.zopac.proofs.OpacTheory.{opac_back}
use Rattle.zopac.proofs.laws.read_back.Goals as goal

pub returns : goal.returns
returns c = opac_back
