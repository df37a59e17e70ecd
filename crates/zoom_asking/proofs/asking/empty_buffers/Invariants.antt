use Rattle.zoom_asking.specs.Buffers.{AreEmpty}
use Rattle.zoom_asking.proofs.asking.empty_buffers.Given as goal

abbrev pub invariant-loop-k : goal.invariant-loop-k
invariant-loop-k l = AreEmpty l._k l.buffers.items
