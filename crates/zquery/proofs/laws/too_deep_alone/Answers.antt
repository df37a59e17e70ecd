use Rattle.zquery.proofs.NotationTheory.Levels.{too-deep-alone}
use Rattle.zquery.proofs.laws.too_deep_alone.Goals as goal

pub returns : goal.returns
returns c = too-deep-alone
