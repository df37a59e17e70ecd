use Rattle.zhtml.proofs.TextTheory.{text_is_visible}
use Rattle.zhtml.proofs.laws.visible_law.Goals as goal

pub returns : goal.returns
returns c = text_is_visible
