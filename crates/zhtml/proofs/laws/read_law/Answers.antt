use Rattle.zhtml.proofs.ReadTheory.{text_reads_back}
use Rattle.zhtml.proofs.laws.read_law.Goals as goal

pub returns : goal.returns
returns c = text_reads_back
