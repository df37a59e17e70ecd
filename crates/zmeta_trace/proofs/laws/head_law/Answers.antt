use Rattle.zmeta_trace.proofs.HeadRead.{head_read}
use Rattle.zmeta_trace.proofs.laws.head_law.Goals as goal

pub returns : goal.returns
returns c = head_read
