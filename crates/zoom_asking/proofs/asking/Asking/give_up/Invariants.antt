use Rattle.zoom_asking.proofs.Ticking.{IsPartly, GaveUp}
use Rattle.zoom_asking.proofs.asking.Asking.give_up.Given as goal

abbrev pub invariant-loop-c : goal.invariant-loop-c
invariant-loop-c l = IsPartly (GaveUp l.c l.at) l.at l.fn.self l.self
