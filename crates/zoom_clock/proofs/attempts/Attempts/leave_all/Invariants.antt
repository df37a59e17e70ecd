use Rattle.std.proofs.Common.{◌≡◌, ◌++◌, map, drop}
use Rattle.zoom_clock.specs.declared.action.Task.TheVariants.{Leave}
use Rattle.zoom_clock.specs.Actions.{all_for}
use Rattle.zoom_clock.specs.Attempts.{leaves, open_from}
use Rattle.zoom_clock.proofs.attempts.Attempts.leave_all.Given as goal

abbrev pub invariant-loop-k : goal.invariant-loop-k
invariant-loop-k l =
    l.queue.items ++ all_for l.c (map Leave (open_from l.k (drop l.k l.self.states)))
    ≡ l.fn.queue.items ++ all_for l.c (leaves l.self.states)
