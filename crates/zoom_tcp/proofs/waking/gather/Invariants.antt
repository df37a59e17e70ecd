use Rattle.zoom_tcp.specs.Waking.{ArePolled}
use Rattle.zoom_tcp.proofs.waking.gather.Given as goal

abbrev pub invariant-loop : goal.invariant-loop
invariant-loop g l = ArePolled g.R.Ready.IsPolled l.initial.ready l.counter l.ready
