use Rattle.zknow_json.proofs.PlainLines.{changes_have_lines}
use Rattle.zknow_json.proofs.laws.change_lines_law.Goals as goal

pub returns : goal.returns
returns c = changes_have_lines
