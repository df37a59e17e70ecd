use Rattle.zknow_json.proofs.PlainLines.{text_has_lines}
use Rattle.zknow_json.proofs.laws.lines_law.Goals as goal

pub returns : goal.returns
returns c = text_has_lines
