use Rattle.zmeta_explain.proofs.SafeWords.{safe_words}
use Rattle.zmeta_explain.proofs.laws.safe_law.Goals as goal

pub returns : goal.returns
returns c = safe_words
