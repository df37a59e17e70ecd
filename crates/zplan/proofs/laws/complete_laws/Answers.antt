use Rattle.zplan.proofs.Order.{complete_asked, complete_whole}
use Rattle.zplan.proofs.laws.complete_laws.Goals as goal

pub returns : goal.returns
returns c = record { only = complete_asked; all = complete_whole }
