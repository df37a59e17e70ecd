use Rattle.zquery.proofs.NotationTheory.ReadTexts.{text-printable}
use Rattle.zquery.proofs.laws.text_printable.Goals as goal

pub returns : goal.returns
returns c = text-printable
