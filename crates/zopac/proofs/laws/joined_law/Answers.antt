use Rattle.zopac.proofs.JoinedTheory.{joined_between}
use Rattle.zopac.proofs.laws.joined_law.Goals as goal

pub returns : goal.returns
returns c = λ separator pieces. joined_between separator pieces
