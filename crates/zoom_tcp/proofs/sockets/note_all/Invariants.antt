use Rattle.zoom_tcp.specs.Waking.{IsLonger}
use Rattle.zoom_tcp.proofs.sockets.note_all.Given as goal

abbrev pub invariant-loop-event : goal.invariant-loop-event
invariant-loop-event l = IsLonger l.initial.queue.items l.queue.items
