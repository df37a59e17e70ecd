use Rattle.zoom_clock.proofs.Waking.{tick, idle_before, step_idle, tasks_idle, moves_at, wakes_later}
use Rattle.zoom_clock.proofs.laws.wake_laws.Goals as goal

pub returns : goal.returns
returns c = record {
  before = λ p now lt. (step_idle (tick now) p (idle_before p now lt), tasks_idle (tick now) p (idle_before p now lt));
  at = λ p now unsettled top le. moves_at p now unsettled top le;
  ahead = λ p now top. wakes_later p now top;
}
