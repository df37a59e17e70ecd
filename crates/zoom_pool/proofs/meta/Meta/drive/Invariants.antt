use Rattle.std.proofs.Common.{◌≤◌}
use Rattle.zoom_pool.specs.Links.{SameElse}
use Rattle.zoom_pool.proofs.Advancing.{Drove}
use Rattle.zoom_pool.proofs.meta.Meta.drive.Given as goal

abbrev pub invariant-loop : goal.invariant-loop
invariant-loop l =
    Drove l.c l.admitted l.counter l.initial.self l.self
    × SameElse l.c l.initial.self.pool l.self.pool × (l.admitted ≤ l.counter)
