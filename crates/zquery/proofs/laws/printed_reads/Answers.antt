use Rattle.zquery.proofs.NotationTheory.PrintedTexts.{printed-reads}
use Rattle.zquery.proofs.laws.printed_reads.Goals as goal

pub returns : goal.returns
returns c = printed-reads
