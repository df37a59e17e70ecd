use Rattle.zplan.proofs.Order.{order_free}
use Rattle.zplan.proofs.laws.order_law.Goals as goal

pub returns : goal.returns
returns c = order_free
