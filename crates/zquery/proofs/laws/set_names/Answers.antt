use Rattle.zquery.proofs.NotationTheory.PrintedWords.{set-is_own_set}
use Rattle.zquery.proofs.laws.set_names.Goals as goal

pub returns : goal.returns
returns c = set-is_own_set
