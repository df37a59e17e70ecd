use Rattle.std.proofs.Common.{◌≡◌, length}
use Rattle.zoom_asking.specs.Steps.{IsExtended}
use Rattle.zoom_asking.proofs.Taking.{AreTakenSoFar}
use Rattle.zoom_asking.proofs.talk.take_all.Given as goal

abbrev pub invariant-loop : goal.invariant-loop
invariant-loop l =
    record {
      taken : IsExtended l.c AreTakenSoFar l.initial.meta l.meta l.initial.unsent.items l.unsent.items;
      size : length l.meta.pool.connections ≡ length l.initial.meta.pool.connections;
    }
