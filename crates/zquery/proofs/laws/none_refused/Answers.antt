use Rattle.zquery.proofs.NotationTheory.Filling.{accepted}
use Rattle.zquery.proofs.laws.none_refused.Goals as goal

pub returns : goal.returns
returns c = accepted
