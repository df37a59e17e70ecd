use Rattle.zknow_titles.proofs.PartTheory.{title_parts}
use Rattle.zknow_titles.proofs.laws.title_part_laws.Goals as goal

pub returns : goal.returns
returns c = title_parts
