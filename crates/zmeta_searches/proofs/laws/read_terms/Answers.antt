use Rattle.zmeta_searches.proofs.Reading.{reads}
use Rattle.zmeta_searches.proofs.laws.read_terms.Goals as goal

pub returns : goal.returns
returns c = reads c.printed_reads.ensures
