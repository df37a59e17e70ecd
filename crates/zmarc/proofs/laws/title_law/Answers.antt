use Rattle.zmarc.proofs.TitleTheory.{title_shown}
use Rattle.zmarc.proofs.laws.title_law.Goals as goal

pub returns : goal.returns
returns c = title_shown
