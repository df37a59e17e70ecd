use Rattle.zmeta_trace.proofs.HeadRead.{one_head}
use Rattle.zmeta_trace.proofs.laws.one_head_law.Goals as goal

pub returns : goal.returns
returns c = one_head
