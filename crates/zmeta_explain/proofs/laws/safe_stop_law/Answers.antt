use Rattle.zmeta_explain.proofs.SafeWords.{safe_stop}
use Rattle.zmeta_explain.proofs.laws.safe_stop_law.Goals as goal

pub returns : goal.returns
returns c = safe_stop
