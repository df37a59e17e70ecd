use Rattle.zoom_pool.proofs.Drivings.{driven, bound}
use Rattle.zoom_pool.proofs.driving.driven_laws.Goals as goal

pub returns : goal.returns
returns c = record {
  driven = λ ask wanted step settings log d. driven ask settings wanted step c.orderly_logs.ensures log d;
  bound = λ ask wanted step settings log w lo d. bound ask settings wanted step c.bound_laws.ensures c.orderly_logs.ensures log w lo d;
}
