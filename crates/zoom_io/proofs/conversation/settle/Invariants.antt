use Rattle.zoom_pool.specs.Links.{SameOthers}
use Rattle.zoom_devices.specs.Devices.{DeviceState}
use Rattle.zoom_io.proofs.Sending.{Settling}
use Rattle.zoom_io.proofs.conversation.settle.Given as goal

abbrev pub invariant-loop : goal.invariant-loop
invariant-loop g l =
    ((left : DeviceState) → Settling l.c l.counter l.initial.meta l.meta left (g.W.Sink.state l.initial.sink)
    (g.W.Sink.state l.sink))
    × SameOthers l.c l.initial.meta.pool l.meta.pool
