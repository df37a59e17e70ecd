use Rattle.zoom_pool.proofs.Orders.{order_free}
use Rattle.zoom_pool.proofs.laws.order_does_not_matter.Goals as goal

pub returns : goal.returns
returns c = order_free
