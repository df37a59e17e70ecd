use Rattle.zoom_clock.specs.Clocks.{due_count}
use Rattle.zoom_asking.proofs.Ticking.{IsPartly, Ticked}
use Rattle.zoom_asking.proofs.asking.Asking.tick.Given as goal

abbrev pub invariant-loop-c : goal.invariant-loop-c
invariant-loop-c l = IsPartly (Ticked l.at) l.at l.fn.self l.self

abbrev pub decreases-loop-c : goal.decreases-loop-c
decreases-loop-c l = due_count l.at l.self.clock
