use Rattle.zquery.proofs.NotationTheory.ReadTexts.{text-spellable}
use Rattle.zquery.proofs.laws.text_spellable.Goals as goal

pub returns : goal.returns
returns c = text-spellable
