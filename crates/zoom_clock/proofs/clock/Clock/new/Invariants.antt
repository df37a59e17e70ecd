use Rattle.std.proofs.Common.{not}
use Rattle.zoom_clock.proofs.Planning.{ArePlanned}
use Rattle.zoom_clock.proofs.clock.Clock.new.Given as goal

abbrev pub invariant-loop-c : goal.invariant-loop-c
invariant-loop-c l = ArePlanned l.start (not l.in_order) l.c l.plans l.courses.items l.wakes
