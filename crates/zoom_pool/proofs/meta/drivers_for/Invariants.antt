use Rattle.std.proofs.Common.{◌≡◌, ◌++◌, length}
use Rattle.std.specs.Vec.Iter.{into_iter_items, into_iter_len}
use Rattle.zoom_pool.specs.Metas.{AreNewDrivers}
use Rattle.zoom_pool.proofs.meta.drivers_for.Given as goal

abbrev pub invariant-loop-question : goal.invariant-loop-question
invariant-loop-question l =
    (l.yielded ++ into_iter_items l.question-iterator ≡ into_iter_items l.initial.question-iterator)
    × AreNewDrivers l.yielded l.step l.window l.drivers.items
    × (into_iter_len l.question-iterator ≡ length (into_iter_items l.question-iterator))
