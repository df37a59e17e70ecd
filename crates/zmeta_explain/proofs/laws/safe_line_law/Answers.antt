use Rattle.zmeta_explain.proofs.SafeLines.{safe_lines}
use Rattle.zmeta_explain.proofs.laws.safe_line_law.Goals as goal

pub returns : goal.returns
returns c = safe_lines
