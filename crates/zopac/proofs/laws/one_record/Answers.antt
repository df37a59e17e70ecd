use Rattle.zopac.proofs.OpacTheory.{one_opac}
use Rattle.zopac.proofs.laws.one_record.Goals as goal

pub returns : goal.returns
returns c = λ v w n h k. one_opac v w n h k
