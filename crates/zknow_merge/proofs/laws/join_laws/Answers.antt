use Rattle.zknow_merge.proofs.JoinTheory as joins
use Rattle.zknow_merge.proofs.laws.join_laws.Goals as goal

pub returns : goal.returns
returns c = joins.join_laws
